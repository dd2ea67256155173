use native.Mathlib.Omega.{arith}
use Rattle.words.proofs.Numbers.{filled_front}
use Rattle.rings.proofs.Read.{read_lists, read_cuts, degrees_count}
use Rattle.rings.proofs.read_lists.Goals as goal

pub starts-requires : goal.starts-requires
starts-requires c =
    (omega (arith, degrees_count c.args.b.bytes.now c.args.ds.now c.requires.0), omega (arith, c.requires.1))

pub returns-clause-lists : goal.returns-clause-lists
returns-clause-lists c =
    let b = c.args.b in
    let read = filled_front _ _ _ _ c.args.ents.now _ c.entries.ensures (omega arith) c.unpack.ensures in
    read_lists b.bytes.now c.starts.new.at _ c.args.ds.now b.block.n _ b.headed.is c.lists_at.ensures c.requires.0 c.requires.1
    (omega arith) c.starts.ensures read

pub returns-clause-cuts : goal.returns-clause-cuts
returns-clause-cuts c =
    let b = c.args.b in
    let read = filled_front _ _ _ _ c.args.ents.now _ c.entries.ensures (omega arith) c.unpack.ensures in
    read_cuts b.bytes.now c.starts.new.at _ c.args.ds.now b.block.n _ b.headed.is c.lists_at.ensures c.requires.0 c.requires.1
    (omega arith) c.starts.ensures read
