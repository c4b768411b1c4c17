-- What a C host reads of a list of calls, worked by hand: document 01's push and pop, with a call between them whose tape is odd.
use Rattle.std.specs.Prelude.{◌≡◌, refl, ℕ, List, [], ◌∷◌, ◌++◌, replicate}
use Rattle.slot_spec.specs.LittleEndian.{value}
use Rattle.slot_spec.specs.Layout.{fields}
use Rattle.lent_bytes_spec.specs.Numbers.{numbers_in}
use Rattle.lent_bytes_spec.specs.StateBytes.{head_in}
use Rattle.host_spec.specs.Host.{HostEnded, lengths_good, host_leaving, host_called}
use Rattle.promise_spec.specs.HostHistory.{HostBrought, brought_by, HostStore, host_finally, host_until_closed, host_counted, HostReply, host_replies, host_trace_of, heard}

-- The outcomes, as far as they are read: the push reveals 1 and 3, the pop 2 and 1, with 50.
abbrev pushed : HostEnded
pushed =
    record { number = 0; state = []; tree = []; trace = 1 ∷ 0 ∷ 3 ∷ 0 ∷ 7 ∷ 7 ∷ []; result = 0 ∷ 2 ∷ 0 ∷ replicate 9 0 }

abbrev odd : HostEnded
odd = host_leaving 18 [] [] (replicate 6 7) (1 ∷ 3 ∷ replicate 10 1)

abbrev popped : HostEnded
popped =
    record { number = 0; state = []; tree = []; trace = 2 ∷ 0 ∷ 1 ∷ 0 ∷ 7 ∷ 7 ∷ []; result = 1 ∷ 2 ∷ 1 ∷ 0 ∷ 50 ∷ replicate 7 0 }

-- What is brought: a pop whose tape is odd, and one whose lengths pass.
abbrev bringing : List ℕ → HostBrought
bringing tape = record { ticket = 5 ∷ replicate 12 0; tape = tape; trace = []; result = replicate 12 0 }

-- A store that a 9 closed.
abbrev closed : HostStore
closed = record { state = 9 ∷ replicate 3247 0; tree = [] }

pub record Readings : Type 0 where
  pub replies : host_replies (pushed ∷ odd ∷ popped ∷ [])
      ≡ record { number = 0; has = 0 ∷ []; value = replicate 8 0 } ∷ record { number = 0; has = 1 ∷ []; value = 50 ∷ replicate 7 0 } ∷ []
  pub trace : host_trace_of (pushed ∷ odd ∷ popped ∷ []) ≡ 1 ∷ 3 ∷ 2 ∷ 1 ∷ []
  pub one-heard : heard (bringing (1 ∷ []) ∷ bringing (1 ∷ 0 ∷ []) ∷ []) ≡ brought_by (bringing (1 ∷ 0 ∷ [])) ∷ []
  -- On a closed store no call counts, and none comes before the closing.
  pub none-counts : host_counted closed (bringing (1 ∷ []) ∷ bringing [] ∷ []) ≡ []
  pub none_before : host_until_closed closed (bringing [] ∷ []) ≡ []
  pub as_it_was : host_finally closed (bringing (1 ∷ []) ∷ bringing [] ∷ []) ≡ closed

pub readings : Readings
unfolding host_replies host_trace_of heard host_counted host_until_closed host_finally host_called lengths_good numbers_in head_in fields value
readings = record { replies = refl; trace = refl; one-heard = refl; none-counts = refl; none_before = refl; as_it_was = refl }
