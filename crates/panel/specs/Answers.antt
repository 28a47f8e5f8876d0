-- What a command comes to, as its answer.
use Rattle.std.specs.Prelude.{Ok, Err, Result}
use Rattle.std.specs.declared.alloc.AllocError.{AllocError}
use Rattle.replies.specs.declared.reply.Denied.{Denied}
use Rattle.panel.specs.declared.failed.Failed.{Failed}
use Rattle.panel.specs.declared.failed.Failed.TheVariants as failed

-- a denial is an answer; that there is no memory is none
abbrev pub answer_of : {X : Type 0} → Result X Failed → Result (Result X Denied) AllocError
answer_of (Ok value) = Ok (Ok value)
answer_of (Err (failed.Denied why)) = Ok (Err why)
answer_of (Err (failed.NoMemory error)) = Err error
