-- The starred cases hold, by computing.
use mathlib.Core.Path.{refl}
use mathlib.Core.List.{flat_map, flatten}
use Rattle.words.specs.Numbers.{words_at, sum_of}
use Rattle.words.specs.First.{numbers, first, some}
use Rattle.words.specs.Lists.{mem, all_of, any_of, count}
use Rattle.block.specs.Block.{order, degrees, lists_from, lists, marked, bad_entry, bad_degree}
use Rattle.rings.specs.Rings.{around, next, all_next, follows, entry_rule, ring_rule, triangle_rule, outer_rule}
use Rattle.rings.specs.Faults.{is_high, is_itself, is_repeated, is_unreturned, is_bad, first_bad}
use Rattle.order.specs.Order.{two_placed, from, lead, rest, leads, one_run, begins, run}
use Rattle.placing.specs.Stages.{third, up_to, on_from, place_over, place, place_all, stage}
use Rattle.placing.specs.Records.{left_of, right_of, standing, run_of, fit_left, fit_right, record_of, entries_of, ends_of}
use Rattle.lamp.specs.Lamp.{block_rows, position_rows, check_rows, sheet_rows, post_rows}
use Rattle.lamp.specs.Given.{given, check_reply}
use Rattle.unit.specs.Replies.{stage_at, sheet_reply, buffer_for, buffer_after, ends_after, post_reply}
use Rattle.unit.specs.Starred.{bytes, block_of, T, D, DList, L, starred_ends, starred, AllGive}

ends_given : AllGive starred_ends
unfolding flat_map flatten words_at sum_of numbers first some mem all_of any_of count order degrees lists_from lists marked bad_entry bad_degree around next
    all_next follows entry_rule ring_rule triangle_rule outer_rule two_placed from lead rest leads one_run begins run third up_to on_from place_over place
    place_all
    stage left_of right_of standing run_of fit_left fit_right record_of entries_of ends_of block_rows position_rows check_rows sheet_rows post_rows
    given stage_at
    check_reply sheet_reply buffer_for buffer_after ends_after post_reply bytes block_of L starred_ends is_high is_itself is_repeated is_unreturned is_bad
    first_bad
ends_given = (refl, (refl, (refl, ((refl, refl), ((refl, refl), tt)))))

pub starred_given : AllGive starred
unfolding flat_map flatten words_at sum_of numbers first some mem all_of any_of count order degrees lists_from lists marked bad_entry bad_degree around next
    all_next follows entry_rule ring_rule triangle_rule outer_rule two_placed from lead rest leads one_run begins run third up_to on_from place_over place
    place_all
    stage left_of right_of standing run_of fit_left fit_right record_of entries_of ends_of block_rows position_rows check_rows sheet_rows post_rows
    given stage_at
    check_reply sheet_reply buffer_for buffer_after ends_after post_reply bytes block_of T D DList L starred is_high is_itself is_repeated is_unreturned is_bad
    first_bad
starred_given = (
  (refl, refl),
  (
    (refl, refl),
    (
      (refl, refl),
      (
        (refl, refl),
        (
          refl,
          (
            (refl, refl),
            (
              refl,
              (
                (refl, refl),
                (
                  refl,
                  (
                    (refl, refl),
                    ((refl, refl), (refl, (refl, (refl, (refl, (refl, (refl, (refl, (refl, (refl, (refl, (refl, (refl, (refl, ends_given)))))))))))))),
                  ),
                ),
              ),
            ),
          ),
        ),
      ),
    ),
  ),
)
