-- The tickets of a copied file are the copies of the file's tickets, in order: so `copied-run` speaks of whole files.
use Rattle.std.specs.Prelude.{ℕ, zero, suc, ◌*◌, ◌/◌, ◌≤◌, ◌≡◌, refl, List, ◌++◌, map, length, take, drop}
use Rattle.std.proofs.Common.{◌∙◌, arith, length-take, length-drop, take_at, drop_at}
use Rattle.state_spec.specs.Ticket.{ticket_length}
use Rattle.ticket_copy_spec.specs.Copy.{ticket_copy, copied, file_copy}
use Rattle.promise_spec.specs.UnusedFields.{tickets_in}
use Rattle.ticket_copy_laws.specs.CopyLaws.{copy-length}

tickets-copied : (n : ℕ) (file : List ℕ) → ticket_length * n ≤ length file → tickets_in n (copied n file) ≡ map ticket_copy (tickets_in n file)
unfolding copied tickets_in
tickets-copied zero file h = refl
tickets-copied (suc n) file h =
    let t = take ticket_length file in
    let rest = copied n (drop ticket_length file) in
    let l : length (ticket_copy t) ≡ ticket_length = copy-length t ∙ length-take ticket_length file ∙ omega arith in
    let a : take ticket_length (ticket_copy t ++ rest) ≡ ticket_copy t = take_at (ticket_copy t) rest ticket_length l in
    let b : drop ticket_length (ticket_copy t ++ rest) ≡ rest = drop_at (ticket_copy t) rest ticket_length l in
    rw (a, b, tickets-copied n (drop ticket_length file) (rw length-drop (omega arith)))

pub copied-tickets : (file : List ℕ) → tickets_in (length file / ticket_length) (file_copy file) ≡ map ticket_copy (tickets_in (length file / ticket_length) file)
copied-tickets file = tickets-copied (length file / ticket_length) file (omega arith)
