-- `call_ending::finished` meets its contract: put rounds that came to these leave the call so.
use Rattle.std.proofs.Common.{◌∙◌, ap, ℕ}
use Rattle.operation_spec.specs.Method.{to_step_answer}
use Rattle.replies.specs.Answered.{answered}
use Rattle.call_ending.specs.EndingLaws.{put-ends}
use Rattle.call_ending.proofs.finished.Goals as goal

pub returns : goal.returns
returns c =
    let a = c.args in
    let ahead = c.ahead_after-ahead in
    λ draw m row tree trace row' tree' trace' ns long puts. rw c.mark_of.ensures
    (put-ends a.job draw a.root a.entries a.answer ns m trace long ahead.result ahead.ensures puts a.peak c.max.ensures c.reply_after.result
    (c.reply_after.ensures ∙ ap (λ (mark : ℕ). answered mark (to_step_answer a.answer)) c.cause_of.ensures))
