use Rattle.std.proofs.Common.{◌≡◌, length, drop}
use Rattle.contour.specs.Entries.{Each, entered}
use Rattle.contour.proofs.put_entries.Given as goal

abbrev pub invariant-loop-a : goal.invariant-loop-a
invariant-loop-a g l =
    record {
      rooms : Each (length l.s) (drop l.a-index l.a-items);
      enters : entered l.s (drop l.a-index l.a-items) ≡ entered l.initial.s l.a-items;
    }
