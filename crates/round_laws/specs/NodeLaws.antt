-- The store's node format is lawful: a node is proper in a tree of size k if its numbers are within their widths and no slot would be
-- bad for it.
use Rattle.std.specs.Prelude.{◌≡◌, Bool, true, false, List, [], ◌∷◌, ℕ, eqb, length, take, drop}
use Rattle.std.proofs.Common.{ap, arith, length-take, length-drop}
use Rattle.list_spec.specs.Choice.{pick}
use Rattle.slot_spec.specs.LittleEndian.{Bytes}
use Rattle.slot_laws.specs.LittleEndianLaws.{value-below, bytes_take, bytes_drop}
use Rattle.slot_spec.specs.Layout.{fields, total, Fit}
use Rattle.slot_laws.specs.LayoutLaws.{length-pack, pack-bytes}
use Rattle.slot_spec.specs.Tree.{slot_length}
use Rattle.slot_spec.specs.Slot.{widths, numbers, fields_in, fields_of, node_of, encode, bad, well_formed, read_slot, Ranged}
use Rattle.slot_laws.specs.ReadLaws.{ReadAs, written-reads-back, read-is-written, read-zero, well-formed-tag}
use Rattle.slot_spec.specs.declared.Node.{Node}
use Rattle.slot_spec.specs.declared.Reading.{Reading}
use Rattle.slot_spec.specs.declared.Reading.TheVariants.{Full, Empty, Bad}
use Rattle.round_spec.specs.Format.{full}
use Rattle.round_spec.specs.Nodes.{node_format, reading_of}
use Rattle.round_laws.specs.Lawful.{Lawful}

-- A node that may wait or stand in a slot of a tree of size k.
abbrev pub ProperNode : ℕ → Node → Type 0
ProperNode k n = Ranged n × (well_formed k n ≡ true)

-- ---- what is read is within its widths
fields_fit : (ws bs : List ℕ) → Bytes bs → length bs ≡ total ws → Fit ws (fields ws bs)
unfolding Fit fields total
fields_fit [] bs h l = tt
fields_fit (w ∷ ws) bs h l =
    let n : length (take w bs) ≡ w = simp length-take (omega arith) in
    let r : length (drop w bs) ≡ total ws = simp length-drop (omega arith) in
    (rw n at (value-below (take w bs) (bytes_take w bs h)), fields_fit ws (drop w bs) (bytes_drop w bs h) r)

held-ranged : (bs : List ℕ) → Fit widths (fields widths bs) → Ranged (node_of (fields_in bs))
unfolding Ranged Fit fields_of node_of fields_in fields
held-ranged bs h = omega arith

read_held : (k b : ℕ) (bs : List ℕ) (n : Node) → read_slot k b bs ≡ Full n → n ≡ node_of (fields_in bs)
unfolding read_slot
read_held k b bs n e = go (bad k b bs (fields_in bs)) (eqb (fields_in bs).flag 0) e
  where
    go : (t u : Bool) → pick t Bad (pick u Empty (Full (node_of (fields_in bs)))) ≡ Full n → n ≡ node_of (fields_in bs)
    go true u e = cc
    go false true e = cc
    go false false e = cc

-- A node that was read is within its widths.
pub read-ranged : (k b : ℕ) (bs : List ℕ) (n : Node) → Bytes bs → length bs ≡ slot_length → read_slot k b bs ≡ Full n → Ranged n
unfolding total
read-ranged k b bs n h l e = rw (read_held k b bs n e) (held-ranged bs (fields_fit widths bs h l))

-- ---- the format
pub reading-full : (r : Reading) (n : Node) → reading_of r ≡ full n → r ≡ Full n
unfolding reading_of
reading-full (Full m) n e = cc
reading-full Empty n e = cc
reading-full Bad n e = cc

read_as : (k b : ℕ) (bs : List ℕ) (n : Node) → Bytes bs → length bs ≡ slot_length → node_format.read k b bs ≡ full n → ReadAs k b bs n
read_as k b bs n h l e = read-is-written k b bs h l n (reading-full (read_slot k b bs) n e)

pub nodes-lawful : Lawful node_format ProperNode
unfolding reading_of encode total
nodes-lawful =
    record {
      slot-sized = λ n. length-pack widths (numbers (fields_of n));
      slot-bytes = λ n. pack-bytes widths (numbers (fields_of n));
      reads-back = λ k b n p on. ap reading_of (written-reads-back k b n p.0 p.1 on);
      read-proper =
          λ k b bs n h l e. (read-ranged k b bs n h l (reading-full (read_slot k b bs) n e), (read_as k b bs n h l e).formed);
      read-passes = λ k b bs n h l e. (read_as k b bs n h l e).on-path;
      read-bytes = λ k b bs n h l e. (read_as k b bs n h l e).written;
      tag-is-leaf = λ k n p. well-formed-tag k n p.1;
      zero-empty = λ k b. ap reading_of (read-zero k b);
    }
