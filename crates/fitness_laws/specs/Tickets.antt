-- What a ticket of bytes asks is within the widths of its fields; a ticket that is not refused for want of a key has one.
use Rattle.std.specs.Prelude.{ℕ, ◌^◌, ◌≤◌, ◌<◌, ◌≡◌, Bool, List, eqb, length, take, drop}
use Rattle.std.proofs.Common.{subst, arith, length-take}
use Rattle.std.proofs.Math.Bool.{true, false}
use Rattle.std.proofs.Math.Option.{Option, none, some}
use Rattle.std.proofs.Math.Nat.{pow-le-pow_right}
use Rattle.std.proofs.lemmas.Bool.{eqb-false}
use Rattle.list_spec.specs.Choice.{pick}
use Rattle.slot_spec.specs.LittleEndian.{value, Bytes}
use Rattle.slot_laws.specs.LittleEndianLaws.{value-below, bytes_take, bytes_drop}
use Rattle.method_spec.specs.Answer.{Structure, map, stack, heap, queue, Op, get, put, remove, push, pop, add, take as take-smallest, enqueue, dequeue}
use Rattle.leaf_spec.specs.Entries.{OpFits, KeyLeft}
use Rattle.state_spec.specs.Ticket.{kind_in, key_in, value_in, op_in, last_key, out_of_keys}

-- A number in at most w bytes.
value-fits : (w : ℕ) (bs : List ℕ) → Bytes bs → value (take w bs) < 256 ^ w
value-fits w bs h =
    let below = value-below (take w bs) (bytes_take w bs h) in
    let few : length (take w bs) ≤ w = omega (arith, length-take w bs) in
    let most : 256 ^ length (take w bs) ≤ 256 ^ w = pow-le-pow_right (omega arith) few in
    omega arith

module _ (t : List ℕ) (h : Bytes t) where
  key_fits : key_in t < 2 ^ 32
  key_fits = value-fits 4 (drop 1 t) (bytes_drop 1 t h)

  value-in-fits : value_in t < 2 ^ 64
  value-in-fits = value-fits 8 (drop 5 t) (bytes_drop 5 t h)

  -- What is asked, if anything is.
  abbrev AskedFits : {st : Structure} → Option (Op st) → Type 0
  AskedFits none = Unit {0}
  AskedFits (some op) = OpFits op

  asked-fits : (st : Structure) → AskedFits (op_in st t)
  unfolding op_in
  asked-fits map = go (eqb (kind_in t) 1) (eqb (kind_in t) 2) (eqb (kind_in t) 3)
    where
      go : (a b c : Bool) → AskedFits {st = map} (pick a (some (get (key_in t))) (pick b (some (put (key_in t) (value_in t))) (pick c (some (remove (key_in t))) none)))
      go true b c = key_fits
      go false true c = (key_fits, value-in-fits)
      go false false true = key_fits
      go false false false = tt
  asked-fits stack = go (eqb (kind_in t) 4) (eqb (kind_in t) 5)
    where
      go : (a b : Bool) → AskedFits {st = stack} (pick a (some (push (value_in t))) (pick b (some pop) none))
      go true b = value-in-fits
      go false true = tt
      go false false = tt
  asked-fits heap = go (eqb (kind_in t) 6) (eqb (kind_in t) 7)
    where
      go : (a b : Bool) → AskedFits {st = heap} (pick a (some (add (value_in t))) (pick b (some take-smallest) none))
      go true b = value-in-fits
      go false true = tt
      go false false = tt
  asked-fits queue = go (eqb (kind_in t) 8) (eqb (kind_in t) 9)
    where
      go : (a b : Bool) → AskedFits {st = queue} (pick a (some (enqueue (value_in t))) (pick b (some dequeue) none))
      go true b = value-in-fits
      go false true = tt
      go false false = tt

pub op_fits : (st : Structure) (ticket : List ℕ) → Bytes ticket → (op : Op st) → op_in st ticket ≡ some op → OpFits op
op_fits st ticket bytes op e = subst (AskedFits ticket bytes {st = st}) e (asked-fits ticket bytes st)

pub key_left : {st : Structure} (op : Op st) (next : ℕ) → next < 2 ^ 32 → out_of_keys op next ≡ false → KeyLeft op next
key_left (get key) next small e = tt
key_left (put key value) next small e = tt
key_left (remove key) next small e = tt
key_left (push value) next small e = tt
key_left pop next small e = tt
key_left (add value) next small e = tt
key_left take-smallest next small e = tt
key_left (enqueue value) next small e = let other = eqb-false next last_key e in omega arith
key_left dequeue next small e = tt
