-- `answer_words::answer_word` meets its contract, answer by answer.
use Rattle.std.proofs.Common.{refl}
use Rattle.answer_words.proofs.answer_word.Goals as goal

pub returns-in-Found : goal.returns-in-Found
returns-in-Found c = rw c.in-Found.is refl

pub returns-in-Absent : goal.returns-in-Absent
returns-in-Absent c = rw c.in-Absent.is refl

pub returns-in-Replaced : goal.returns-in-Replaced
returns-in-Replaced c = rw c.in-Replaced.is refl

pub returns-in-New : goal.returns-in-New
returns-in-New c = rw c.in-New.is refl

pub returns-in-Removed : goal.returns-in-Removed
returns-in-Removed c = rw c.in-Removed.is refl

pub returns-in-Pushed : goal.returns-in-Pushed
returns-in-Pushed c = rw c.in-Pushed.is refl

pub returns-in-Popped : goal.returns-in-Popped
returns-in-Popped c = rw c.in-Popped.is refl

pub returns-in-Added : goal.returns-in-Added
returns-in-Added c = rw c.in-Added.is refl

pub returns-in-Taken : goal.returns-in-Taken
returns-in-Taken c = rw c.in-Taken.is refl

pub returns-in-Queued : goal.returns-in-Queued
returns-in-Queued c = rw c.in-Queued.is refl

pub returns-in-Dequeued : goal.returns-in-Dequeued
returns-in-Dequeued c = rw c.in-Dequeued.is refl

pub returns-in-Empty : goal.returns-in-Empty
returns-in-Empty c = rw c.in-Empty.is refl
