-- Document 02, change 3: "After a 9 in a store that began fresh and that only its own calls changed, nothing is left out and the file
-- holds the contents before or after that call."
use Rattle.std.specs.Prelude.{ℕ, ◌≤◌, ◌≡◌, List, [], ◌∷◌, ◌++◌, map, length}
use Rattle.std.proofs.Math.Option.{some}
use Rattle.method_spec.specs.Answer.{Structure, Op}
use Rattle.method_spec.specs.Plain.{Contents, Entries, plain, plain_contents, nothing}
use Rattle.method_spec.specs.Call.{capacity}
use Rattle.bucket_call_spec.specs.Simulates.{Remains}
use Rattle.state_spec.specs.Ticket.{op_in}
use Rattle.call_spec.specs.Reply.{Refused}
use Rattle.readout_spec.specs.Taken.{pair_of_entry, entries, report}
use Rattle.readout_spec.specs.ReadOut.{file_of, writing, read_out}
use Rattle.readout_spec.specs.ReadBack.{read_back}
use Rattle.demand_spec.specs.History.{Brought, StateAndTree, call_on, finally}
use Rattle.demand_spec.specs.Demands.{fetching, start, before, asked, left}

module _ (st : Structure) (k : ℕ) (tree : List ℕ) (bs : List Brought) where
  -- The store at the end, which the call that met 9 left.
  abbrev pub closed : StateAndTree
  closed = finally (start st k tree bs) bs

  -- What the plain machine held before that call.
  abbrev pub plain_before : Contents st
  plain_before = plain_contents (capacity k) (asked st k tree bs) (nothing st)

  -- The store is read out: nothing is left out, and the file's entries are what the plain machine held before the call b that met 9
  -- where a fetch round closed the store, and what it holds after it where a put round did.
  pub record ReadsOut : Type 0 where
    pub b : Brought
    pub after : List Brought
    pub then-closed : bs ≡ before st k tree bs ++ (b ∷ after)
    pub op : Op st
    pub asks : op_in st b.ticket ≡ some op
    pub overflow : (call_on (left st k tree bs) b).reply ≡ Refused 9
    pub written : (out : List ℕ) → length (file_of closed.state closed.tree) ≤ length out
        → read_out closed.state closed.tree out ≡ writing (file_of closed.state closed.tree) out
    pub nothing-left-out : report closed.state closed.tree ≡ []
    pub contents : Remains (Entries st plain_before) (Entries st (plain (capacity k) op plain_before).contents)
        (map pair_of_entry (entries closed.state closed.tree))
        (fetching (left st k tree bs).state (left st k tree bs).tree b.ticket b.tape b.trace st op)
    -- So a reader of the buffer and the returned length has these entries, and no line of a report.
    pub reads-back : (out : List ℕ) → length (file_of closed.state closed.tree) ≤ length out
        → read_back (length (file_of closed.state closed.tree)) (read_out closed.state closed.tree out).out
        ≡ record { entries = map pair_of_entry (entries closed.state closed.tree); report = [] }
