-- Document 02, change 7, calls from the C host: opening, a call and a read-out over numbers and byte buffers, each in terms of the existing one.
-- The returned number, and every lent byte.
use Rattle.std.specs.Prelude.{ℕ, ◌%◌, Bool, not, ◌&&◌, List, eqb, length}
use Rattle.list_spec.specs.Choice.{pick}
use Rattle.state_spec.specs.declared.State.{State}
use Rattle.state_spec.specs.Opening.{Opened, opened}
use Rattle.call_spec.specs.Store.{Ended, called}
use Rattle.readout_spec.specs.ReadOut as read
use Rattle.readout_spec.specs.ReadOut.{read_out, length_of}
use Rattle.lent_bytes_spec.specs.Numbers.{number_length, numbers_of, numbers_bytes}
use Rattle.lent_bytes_spec.specs.StateBytes.{state_length, head_in, state_in, state_bytes, fit_bytes}
use Rattle.host_spec.specs.Result.{reply_number, reply_value, result_length, result_bytes}

-- ---- opening
pub record HostOpened : Type 0 where
  pub number : ℕ
  pub state : List ℕ
  pub tree : List ℕ

-- What an opening that returns n leaves.
abbrev pub host_opening : ℕ → (state tree : List ℕ) → HostOpened
host_opening n state tree = record { number = n; state = state; tree = tree }

-- The number is the mark of the state that the opening leaves.
abbrev pub opened_as : Opened → HostOpened
opened_as o = host_opening o.state.mark (state_bytes o.state) o.tree

unfoldable pub host_opened : (structure size : ℕ) → (state tree : List ℕ) → HostOpened
host_opened structure size state tree =
    pick (not (eqb (length state) state_length)) (host_opening 18 state tree)
    (opened_as (opened structure size tree))

-- ---- a call
pub record HostEnded : Type 0 where
  pub number : ℕ
  pub state : List ℕ
  pub tree : List ℕ
  pub trace : List ℕ
  pub result : List ℕ

-- "18 when the state or result buffer has another length, or tape or trace an odd one"
unfoldable pub lengths_good : (state tape trace result : ℕ) → Bool
lengths_good state tape trace result =
    eqb state state_length
    && (eqb result result_length && (eqb (tape % number_length) 0 && eqb (trace % number_length) 0))

-- What a call that returns n leaves. A refusal leaves every byte as it came.
abbrev pub host_leaving : ℕ → (state tree trace result : List ℕ) → HostEnded
host_leaving n state tree trace result = record { number = n; state = state; tree = tree; trace = trace; result = result }

-- "A call that reveals a leaf also fills 12 result bytes"
abbrev pub host_ended_as : List ℕ → Ended → HostEnded
host_ended_as result e =
    record {
      number = reply_number e.reply;
      state = state_bytes e.state;
      tree = e.tree;
      trace = numbers_bytes e.trace;
      result = pick (eqb e.leaves 0) result (result_bytes (reply_value e.reply) e.leaves e.peak);
    }

-- 18 lengths, 1 closed mark, 2 unfit bytes; then "each call means what the existing one means".
abbrev pub host_called_by : (existing : State → (tree ticket tape trace : List ℕ) → Ended) → (state tree ticket tape trace result : List ℕ) → HostEnded
host_called_by existing state tree ticket tape trace result =
    pick (not (lengths_good (length state) (length tape) (length trace) (length result))) (host_leaving 18 state tree trace result)
    (pick (not (eqb (head_in state).mark 0)) (host_leaving 1 state tree trace result)
    (pick (not (fit_bytes state)) (host_leaving 2 state tree trace result)
    (host_ended_as result (existing (state_in state) tree ticket (numbers_of tape) (numbers_of trace)))))

unfoldable pub host_called : (state tree ticket tape trace result : List ℕ) → HostEnded
host_called state tree ticket tape trace result = host_called_by called state tree ticket tape trace result

-- ---- reading out
-- Number and length apart: the length is 0 with every number but 0.
pub record HostReadOut : Type 0 where
  pub number : ℕ
  pub length : ℕ
  pub out : List ℕ

abbrev pub host_reading : (number length : ℕ) → List ℕ → HostReadOut
host_reading n l out = record { number = n; length = l; out = out }

abbrev pub read_as : read.ReadOutLeft → HostReadOut
read_as l = host_reading (read.read_out_number l.result) (length_of l.result) l.out

unfoldable pub host_read_out : (state tree out : List ℕ) → HostReadOut
host_read_out state tree out =
    pick (not (eqb (length state) state_length)) (host_reading 18 0 out)
    (read_as (read_out (state_in state) tree out))
