-- The reply of each service, and the buffer after a call of sheet or ends, as functions of everything handed in; check's is lamp's check_reply.
use Rattle.std.specs.Prelude.{ℕ, ◌*◌, List, ◌++◌, length, take, drop}
use Rattle.block.specs.Block.{order, lists}
use Rattle.placing.specs.Stages.{Stage, stage}
use Rattle.placing.specs.Records.{record_of, entries_of, ends_of}
use Rattle.placing.specs.declared.Record.{Record}
use Rattle.lamp.specs.Lamp.{sheet_rows, post_rows}
use Rattle.lamp.specs.Given.{Reply, accepted, refused, given}

-- stage k of a block
unfoldable pub stage_at : ℕ → List ℕ → Stage
stage_at k s = stage (lists s) (take k (order s))

-- sheet, with a buffer that came as b: accepted with the count 2k
unfoldable pub sheet_reply : List ℕ → ℕ → List ℕ → Reply ℕ
sheet_reply s k b = given (sheet_rows s k (length b)) s (λ s. 2 * k)

-- a lent buffer b after a call with this reply, where an acceptance writes w: entries beyond stay; after a refusal it is as it came
unfoldable pub buffer_for : Reply ℕ → List ℕ → List ℕ → List ℕ
buffer_for (accepted count) w b = w ++ drop count b
buffer_for (refused number place) w b = b

-- sheet writes x then y of v1 up to vk
unfoldable pub buffer_after : List ℕ → ℕ → List ℕ → List ℕ
buffer_after s k b = buffer_for (sheet_reply s k b) (entries_of (stage_at k s)) b

-- ends, whose reply is the same, writes for each of v1 to vk the left and the right end of its run; for v1 and v2 their own names
unfoldable pub ends_after : List ℕ → ℕ → List ℕ → List ℕ
ends_after s k b = buffer_for (sheet_reply s k b) (ends_of (lists s) (take k (order s))) b

-- post: accepted with the record
unfoldable pub post_reply : List ℕ → ℕ → ℕ → Reply Record
post_reply s k u = given (post_rows s k u) s (λ s. record_of (lists s) (stage_at k s) u)
