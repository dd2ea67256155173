use Rattle.std.proofs.Common.{length, rules}
use Rattle.engine.specs.Lent.{board}
use Rattle.engine.proofs.StageThree.{three_posts, third_holds}
use Rattle.engine.proofs.Known.{once, with_plan}
use Rattle.engine.proofs.reach.Goals as goal

pub start-requires : goal.start-requires
start-requires c =
    let t = with_plan c.args.runs (hlevel once) (λ A. three_posts A) in
    record {
      n = length (board c.args.runs);
      room = c.requires.1;
      below1 = t.0;
      below2 = t.1;
      below3 = t.2;
      apart12 = t.3;
      apart13 = t.4;
      apart23 = t.5;
    }

pub loop-i-init : goal.loop-i-init
loop-i-init c =
    record {
      upto = c.requires.0.0;
      holds = with_plan c.args.runs (hlevel once) (λ A. third_holds A c.start.ensures.shows (search rules));
      same_arrays = c.start.ensures.same_arrays;
    }
