use native.Mathlib.Omega.{arith}
use Rattle.unit.proofs.Calls.{fitted, kept}
use Rattle.unit.proofs.held.Held.runs.Goals as goal

pub invariant_of-result : goal.invariant_of-result
invariant_of-result c =
    let e = c.requires.0 in
    let R = c.requires.1 in
    let m = c.entries.ensures in
    record {
      fitted = ∣ fitted _ _ e _ _ _ _ _ R (omega arith) (record { names = omega arith; known = omega arith }) _ m ∣₁;
      kept = ∣ kept _ _ e _ _ _ _ _ R (omega arith) (record { names = omega arith; known = omega arith }) _ m ∣₁;
    }
