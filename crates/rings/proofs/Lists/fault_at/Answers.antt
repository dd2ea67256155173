use native.Mathlib.Omega.{arith}
use Rattle.rings.proofs.Held.{held_length}
use Rattle.rings.proofs.Faults.{is_high_lem, is_itself_lem, is_repeated_lem, is_unreturned_lem, is_sound}
use Rattle.rings.proofs.Lists.fault_at.Goals as goal

pub returns-then-self-from : goal.returns-then-self-from
returns-then-self-from c =
    let many = held_length c.args.self.at.now c.args.self.ents.now in
    is_high_lem _ _ _ _ c.requires.1 (omega arith)

pub returns-then-v-u : goal.returns-then-v-u
returns-then-v-u c =
    let many = held_length c.args.self.at.now c.args.self.ents.now in
    is_itself_lem _ _ _ _ c.requires.1 (omega arith) c.if-v-u.true

pub returns-then-contains : goal.returns-then-contains
returns-then-contains c =
    let many = held_length c.args.self.at.now c.args.self.ents.now in
    is_repeated_lem _ _ _ _ c.requires.1 (omega arith) c.if-v-u.false _ c.contains.ensures.value c.if-contains.true

pub returns-then-not-contains : goal.returns-then-not-contains
returns-then-not-contains c =
    let many = held_length c.args.self.at.now c.args.self.ents.now in
    let there = rw c.ring.ensures.is at c.contains-2.ensures.value in
    is_unreturned_lem _ _ _ _ c.requires.1 (omega arith) c.if-v-u.false _ c.contains.ensures.value c.if-contains.false _ there c.if-not-contains.true

pub returns : goal.returns
returns c =
    let many = held_length c.args.self.at.now c.args.self.ents.now in
    let there = rw c.ring.ensures.is at c.contains-2.ensures.value in
    is_sound _ _ _ _ c.requires.1 (omega arith) c.if-v-u.false _ c.contains.ensures.value c.if-contains.false _ there c.if-not-contains.false
