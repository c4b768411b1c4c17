-- An in and an out on a queue of size 2, over bytes, as a table with one claim.
use Rattle.std.specs.Prelude.{◌≡◌, refl, [], ◌∷◌, ◌++◌, replicate}
use Rattle.slot_spec.specs.Slot.{no_link, encode}
use Rattle.operation_spec.specs.declared.Answer.TheVariants.{Queued, Dequeued}
use Rattle.call_spec.specs.Reply.{Answered, Refused}
use Rattle.worked_laws.specs.Table.{Ticketed, from, last_of}

abbrev in_fifty : Ticketed
in_fifty = record { kind = 8; key = 0; value = 50; tape = 1 ∷ 2 ∷ 3 ∷ 0 ∷ [] }

abbrev out_next : Ticketed
out_next = record { kind = 9; key = 0; value = 0; tape = 0 ∷ 1 ∷ 1 ∷ 1 ∷ [] }

abbrev out_short : Ticketed
out_short = record { kind = 9; key = 0; value = 0; tape = 0 ∷ 1 ∷ 1 ∷ [] }

pub record Worked : Type 0 where
  -- The in reveals draw 0 and draw 3. Its node (tag 2, draw 1) shares only the root with leaf 0, so it is at byte 0; its left link
  -- carries draw 2.
  pub queued-reply : (from 4 2 2 in_fifty []).reply ≡ Answered Queued
  pub queued-leaves : (from 4 2 2 in_fifty []).trace ≡ 1 ∷ 0 ∷ []
  pub queued-tree : (from 4 2 2 in_fifty []).tree
      ≡ encode (record { key = 0; value = 50; tag = 2; left = record { height = 1; key = 1; tag = 3 }; right = no_link }) ++ replicate 864 0
  pub queued-root : (from 4 2 2 in_fifty []).state.root ≡ record { height = 1; key = 0; tag = 2 }
  pub queued-ahead : (from 4 2 2 in_fifty []).state.ahead ≡ record { key = 1; tag = 3 }
  -- The out after it reveals the node's tag and its own draw 3, and leaves the next unused key alone.
  pub dequeued-reply : (from 4 2 2 in_fifty (out_next ∷ [])).reply ≡ Answered (Dequeued 50)
  pub dequeued-leaves : (from 4 2 2 in_fifty (out_next ∷ [])).trace ≡ 2 ∷ 1 ∷ []
  pub dequeued-root : (from 4 2 2 in_fifty (out_next ∷ [])).state.root ≡ no_link
  pub dequeued-ahead : (from 4 2 2 in_fifty (out_next ∷ [])).state.ahead ≡ record { key = 1; tag = 0 }
  -- Three numbers are too few.
  pub tape-short : (from 4 2 2 in_fifty (out_short ∷ [])).reply ≡ Refused 6

pub worked : Worked
unfolding last_of
worked =
    record {
      queued-reply = refl;
      queued-leaves = refl;
      queued-tree = refl;
      queued-root = refl;
      queued-ahead = refl;
      dequeued-reply = refl;
      dequeued-leaves = refl;
      dequeued-root = refl;
      dequeued-ahead = refl;
      tape-short = refl;
    }
