-- What the loops over the lists find, as the code's Result tells it. Only inner contracts cite it.
use Rattle.std.specs.Prelude.{ℕ, not, cond, List, ltb, length, Result, Ok, Err}
use Rattle.words.specs.First.{first}
use Rattle.rings.specs.Rings.{ring_rule}
use Rattle.rings.specs.Faults.{is_high, is_itself, is_repeated, is_unreturned, first_bad}
use Rattle.rings.specs.declared.ListFault.{ListFault}
use Rattle.rings.specs.declared.ListFault.TheVariants.{High, Itself, Repeated, Unreturned}

-- an entry's fault, the first of the four that it has
unfoldable pub fault_at : List (List ℕ) → ℕ → ℕ → Result Unit ListFault
fault_at G u i =
    cond (is_high G u i) (Err (High u))
    (cond (is_itself G u i) (Err (Itself u)) (cond (is_repeated G u i) (Err (Repeated u)) (cond (is_unreturned G u i) (Err (Unreturned u)) (Ok tt))))

-- of all lists: the fault of the first bad entry in the lowest list that breaks G3
unfoldable pub fault_of : List (List ℕ) → Result Unit ListFault
fault_of G = let u = first 0 (length G) (λ z. not (ring_rule G z)) in cond (ltb u (length G)) (fault_at G u (first_bad G u)) (Ok tt)
