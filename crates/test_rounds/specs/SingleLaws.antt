-- What the two halves of a round need follows from a store at rest, and what they leave is the round's, with the store at rest again.
use Rattle.std.specs.Option.{unwrap_or, option_and}
use Rattle.std.specs.Prelude.{◌≡◌, refl, Bool, true, false, not, is_some, Option, Some, None, List, [], ◌∷◌, ◌++◌, ℕ, ◌+◌, ◌^◌, ◌≤◌, ◌<◌, length, take, get_or, replicate, ltb}
use Rattle.std.proofs.Common.{sym, ◌∙◌, ap, ap₂, subst, append-nil, arith, get_or-take, ne_eqb, ltb-false}
use Rattle.std.proofs.Math.Option.{none, some}
use Rattle.list_spec.specs.Choice.{pick}
use Rattle.list_laws.specs.DistinctLaws.{all_nil}
use Rattle.slot_spec.specs.Tree.{among, tree_length}
use Rattle.slot_spec.specs.Slot.{fields_in, slot_bytes, node_of}
use Rattle.slot_spec.specs.declared.Slot.{Slot}
use Rattle.round_spec.specs.Round.{Hand, Written, keys_of, none_twice, insert, write_half, exceeds_limit}
use Rattle.round_spec.specs.Nodes.{words_format}
use Rattle.word_round_laws.specs.SlotRow.{row_length, slots_in, Blank, Leaves}
use Rattle.word_round_laws.specs.SlotRowLaws.{zeros-blank, blank-more}
use Rattle.slot_spec.specs.Row.{zero_slot}
use Rattle.list_spec.specs.Ascending.{ascending}
use Rattle.word_round_laws.specs.StashLaws.{Above, Ascending, ascending-holds, ascending-test, insert-ascending}
use Rattle.slot_row.specs.SlotJoined.{SlotJoined}
use Rattle.word_round_laws.specs.JoinLaws.{insert_all}
use Rattle.path_reader.specs.Look.{wish_of, wanted, hand_of, Fit, Granted, Refused}
use Rattle.eviction.specs.Settle.{Joint, Settled}
use Rattle.eviction.specs.SettleLaws.{removed-leaves}
use Rattle.word_round_laws.specs.KeepLaws.{read-ascending, write-ascending, write-holds}
use Rattle.path_reader.specs.declared.Looked.{Looked}
use Rattle.path_reader.specs.declared.Wish.{Wish}
use Rattle.slot_spec.specs.declared.Node.{Node as NodeOf}
use Rattle.round_close.specs.Fault.{mark_of, overflow_if, overflow-mark}
use Rattle.round_close.specs.declared.Fault.{Fault}
use Rattle.round_close.specs.declared.Fault.TheVariants.{Damage}
use Rattle.test_rounds.specs.declared.Closed.{Closed}
use Rattle.test_rounds.specs.Single.{held_count, closing, reading, Waits, Resting, Waiting, Rounded, Rests}

-- ---- ascending keys are apart
above-absent : (k : ℕ) (ks : List ℕ) → Above k ks → among k ks ≡ false
unfolding among
above-absent k [] a = refl
above-absent k (l ∷ ks) a = rw (ne_eqb k l (λ q. omega (arith, a.0)), above-absent k ks a.1)

apart : (ks : List ℕ) → Ascending ks → none_twice ks ≡ true
unfolding none_twice
apart [] a = refl
apart (k ∷ ks) a = rw (above-absent k ks a.0) (apart ks a.1)

ascending-apart : (ks : List ℕ) → ascending ks ≡ true → none_twice (ks ++ []) ≡ true
ascending-apart ks a = rw (append-nil ks) (apart ks (ascending-holds ks a))

-- ---- the place of a wanted node
abbrev pub taken_at : Option Wish → ℕ → Option ℕ
taken_at wish at = option_and wish (Some at)

inside-out : (wish : Option Wish) (at m : ℕ) → (wanted wish ≡ true → at < m) → is_some (taken_at wish at) ≡ true → unwrap_or (taken_at wish at) 0 < m
inside-out None at m h t = let z : ◌≡◌ {A = ℕ} 0 1 = cc in absurd (omega arith)
inside-out (Some w) at m h t = h refl

pub settled-as : {k leaf m : ℕ} (wish : Option Wish) (at : ℕ) {row tree row' tree' : List ℕ} {r : ℕ}
    → Settled k leaf m (is_some (taken_at wish at)) (unwrap_or (taken_at wish at) 0) row tree row' tree' r → Settled k leaf m (wanted wish) at row tree row' tree' r
settled-as None at s = record { sized = s.sized; fewer = s.fewer; blank = s.blank; half = s.half; counted = s.counted }
settled-as (Some w) at s = s

pub node-out : (wish : Option Wish) (n : NodeOf) → wanted wish ≡ true → option_and wish (Some n) ≡ Some n
node-out None n t = let z : ◌≡◌ {A = ℕ} 0 1 = cc in absurd (omega arith)
node-out (Some w) n t = refl

-- ---- what the halves need
module _ {k n : ℕ} {row tree : List ℕ} (rest : Resting k n row tree) (leaf : ℕ) (is_leaf : leaf < 2 ^ k) where
  pub resting-fit : Fit k leaf n row tree []
  resting-fit =
      record {
        size = omega (arith, rest.small);
        is_leaf = is_leaf;
        tree-sized = rest.tree-sized;
        waiting-sized = rest.waits.sized;
        blank = rest.waits.blank;
        room = omega (arith, rest.small, rest.waits.few);
        order = rest.waits.order;
        distinct = ascending-apart (keys_of words_format (take n (slots_in row))) rest.waits.order;
      }

  pub looked-joint : {after : List ℕ} (wish : Option Wish) (r : Looked) → Granted k leaf wish n row tree [] after r → length after ≡ row_length
      → Joint k leaf r.count (is_some (taken_at wish r.at)) (unwrap_or (taken_at wish r.at) 0) after tree
  looked-joint wish r looked sized =
      record {
        size = omega (arith, rest.small);
        is_leaf = is_leaf;
        tree-sized = rest.tree-sized;
        sized = sized;
        blank = looked.blank;
        room = omega (arith, looked.within, rest.small, rest.waits.few);
        inside = inside-out wish r.at r.count looked.inside;
        leaves = looked.leaves rest.waits.leaves;
      }

-- ---- the close of a round
closing-damage : (k t : ℕ) (ws : List Slot) (tree : List ℕ) → closing k t ws tree none ≡ record { mark = 8; waiting = ws; tree = tree }
unfolding closing
closing-damage k t ws tree = refl

closing-through : (k t : ℕ) (ws : List Slot) (tree : List ℕ) (h : Hand Slot)
    → closing k t ws tree (some h)
    ≡ record {
      mark = pick (exceeds_limit (length (write_half words_format k t h.waiting tree).waiting) (held_count h.taken)) 9 0;
      waiting = (write_half words_format k t h.waiting tree).waiting;
      tree = (write_half words_format k t h.waiting tree).tree;
    }
unfolding closing
closing-through k t ws tree h = refl

held-count : (taken : Bool) (x : Slot) → held_count (pick taken (some x) none) ≡ pick taken 1 0
held-count true x = refl
held-count false x = refl

in-hand : (taken : Bool) (x y : Slot) → pick taken (some x) none ≡ some y → (taken ≡ true) × (x ≡ y)
in-hand true x y e = (refl, cc)
in-hand false x y e = let z : ◌≡◌ {A = ℕ} 0 1 = cc in absurd (omega arith)

few-left : (left held mark : ℕ) → mark ≡ pick (exceeds_limit left held) 9 0 → (mark ≡ 9 → ⊥) → left + held ≤ 64
few-left left held mark e other = go (ltb 64 (left + held)) refl
  where
    go : (b : Bool) → ltb 64 (left + held) ≡ b → left + held ≤ 64
    go true q = let z : ⊥ = other (e ∙ rw q) in absurd z
    go false q = ltb-false 64 (left + held) q

pub count_small : (taken : Bool) → pick taken 1 0 ≤ 1
count_small true = omega arith
count_small false = omega arith

-- Damage: all is as it was.
pub round-damage : {k n : ℕ} {row tree after : List ℕ} (rest : Resting k n row tree) (leaf : ℕ) (wish : Option Wish) → Refused k leaf wish n row tree [] after
    → Rounded k leaf wish n row tree after tree (record { fault = Some Damage; waiting = n; node = None })
round-damage {k} {n} {row} {tree} rest leaf wish looked =
    let ws : List Slot = take n (slots_in row) in
    subst (λ (row' : List ℕ). Rounded k leaf wish n row tree row' tree (record { fault = Some Damage; waiting = n; node = None })) (sym looked.same)
    (record {
      round = ap (closing k leaf ws tree) looked.half ∙ closing-damage k leaf ws tree;
      node = λ h x e t. let f : none ≡ some h = sym looked.half ∙ e in let z : ◌≡◌ {A = ℕ} 0 1 = cc in absurd (omega arith);
      rests = λ _. rest;
    })

module _ {k n : ℕ} {row tree after : List ℕ} (rest : Resting k n row tree) (leaf : ℕ) (wish : Option Wish) (r : Looked)
    (looked : Granted k leaf wish n row tree [] after r) where
  abbrev ws : List Slot
  ws = take n (slots_in row)

  abbrev joint : List Slot
  joint = take r.count (slots_in after)

  module _ {row' tree' : List ℕ} {left : ℕ} (settled : Settled k leaf r.count (wanted wish) r.at after tree row' tree' left) where
    abbrev taken : Bool
    taken = wanted wish

    abbrev hand : Hand Slot
    hand = hand_of taken r.at joint

    abbrev written : Written Slot
    written = write_half words_format k leaf hand.waiting tree

    hand-read : reading k leaf (wish_of wish) ws tree ≡ some hand
    hand-read = looked.half

    left-waits : written.waiting ≡ take left (slots_in row')
    left-waits = ap (λ (v : Written Slot). v.waiting) settled.half

    left-order : ascending (keys_of words_format (take left (slots_in row'))) ≡ true
    left-order =
        subst (λ (xs : List Slot). ascending (keys_of words_format xs) ≡ true) left-waits
        (write-ascending words_format k leaf hand.waiting tree
        (read-ascending words_format k tree leaf (wish_of wish) [] ws hand
        (ascending-apart (keys_of words_format ws) rest.waits.order) hand-read rest.waits.order))

    left-leaves : Leaves k (take left (slots_in row'))
    left-leaves =
        subst (Leaves k) left-waits
        (write-holds words_format k leaf hand.waiting tree (λ (x : Slot). words_format.tag x < 2 ^ k)
        (removed-leaves k taken r.at joint (looked.leaves rest.waits.leaves)))

    pub round-close : (held : ℕ) (fault : Option Fault) → held ≡ pick taken 1 0 → fault ≡ overflow_if (exceeds_limit left held) → length tree' ≡ length tree
        → Rounded k leaf wish n row tree row' tree' (record { fault = fault; waiting = left; node = option_and wish (Some r.node) })
    round-close held fault counted closed same =
        let mark : ℕ = mark_of fault in
        let marked : mark ≡ pick (exceeds_limit left held) 9 0 = ap mark_of closed ∙ overflow-mark (exceeds_limit left held) in
        let mark-is : pick (exceeds_limit (length written.waiting) (held_count hand.taken)) 9 0 ≡ mark =
        ap₂ (λ (a b : ℕ). pick (exceeds_limit a b) 9 0) (sym settled.counted) (held-count taken (get_or joint r.at zero_slot) ∙ sym counted) ∙ sym marked in
        record {
          round =
              ap (closing k leaf ws tree) hand-read
              ∙ closing-through k leaf ws tree hand
              ∙ ap (λ (m : ℕ). record { mark = m; waiting = written.waiting; tree = written.tree }) mark-is
              ∙ ap (λ (v : Written Slot). record { mark = mark; waiting = v.waiting; tree = v.tree }) settled.half;
          node =
              λ h x e t. let same-hand : hand ≡ h = cc hand-read in
              let q = in-hand taken (get_or joint r.at zero_slot) x (ap (λ (g : Hand Slot). g.taken) same-hand ∙ t) in
              let want : wanted wish ≡ true = q.0 in
              node-out wish r.node want
              ∙ ap (λ (m : NodeOf). Some m) (looked.node want
              ∙ ap (λ (y : Slot). node_of (fields_in (slot_bytes y)))
              (sym (get_or-take r.count (slots_in after) r.at zero_slot (looked.inside want)) ∙ q.1));
          rests =
              λ other. record {
                small = rest.small;
                waits =
                    record {
                      sized = settled.sized;
                      few = omega (arith, few-left left held mark marked other);
                      blank = settled.blank;
                      order = left-order;
                      leaves = left-leaves;
                    };
                tree-sized = same ∙ rest.tree-sized;
              };
        }

-- ---- a slot that comes to wait
pub no-wait : (k n : ℕ) (x : Slot) (row row' : List ℕ) → Waiting k n x row row' false
no-wait k n x row row' =
    record {
      joined = λ t. let z : ◌≡◌ {A = ℕ} 0 1 = cc in absurd (omega arith);
      waits = λ t. let z : ◌≡◌ {A = ℕ} 0 1 = cc in absurd (omega arith);
    }

not-among : (a b : Bool) → a ≡ not b → a ≡ true → b ≡ false
not-among a true e t = let z : ◌≡◌ {A = ℕ} 0 1 = cc in absurd (omega arith)
not-among a false e t = refl

module _ (k n : ℕ) (x : Slot) (row row' : List ℕ) (r : Bool) (before : Waits k n row) (joined : SlotJoined n x row row' r) where
  pub slot-waits : length row' ≡ row_length → n ≤ 64 → words_format.tag x < 2 ^ k → Waiting k n x row row' r
  slot-waits sized few leaf =
      record {
        joined = joined.joined;
        waits =
            λ t. let new = not-among r (among (words_format.key x) (keys_of words_format (take n (slots_in row)))) joined.is-new t in
            let now = joined.joined t in
            record {
              sized = sized;
              few = omega arith;
              blank = joined.rest t ∙ blank-more row n (n + 1) (omega arith) before.blank;
              order =
                  rw now
                  (ascending-test (keys_of words_format (insert words_format x (take n (slots_in row))))
                  (insert-ascending words_format x (take n (slots_in row)) new
                  (ascending-holds (keys_of words_format (take n (slots_in row))) before.order)));
              leaves =
                  subst (Leaves k) (sym now)
                  (insert_all words_format {P = λ (y : Slot). words_format.tag y < 2 ^ k} x (take n (slots_in row)) leaf before.leaves);
            };
      }

-- ---- the store at rest again
pub resting-waits : {k n : ℕ} {row tree row' : List ℕ} {x : Slot} {r : Bool} → Resting k n row tree → Waiting k n x row row' r → r ≡ true
    → Resting k (n + 1) row' tree
resting-waits rest waiting ok = record { small = rest.small; waits = waiting.waits ok; tree-sized = rest.tree-sized }

pub rounded-rests : {k leaf n : ℕ} {wish : Option Wish} {row tree row' tree' : List ℕ} (r : Closed) → Rounded k leaf wish n row tree row' tree' r → mark_of r.fault ≡ 0
    → Resting k r.waiting row' tree'
rounded-rests r rounded ok = rounded.rests (λ e. let z : ⊥ = omega arith in z)

-- A store in which none waits.
pub none-waits : (k : ℕ) (row tree : List ℕ) → k ≤ 8 → row ≡ replicate row_length 0 → length tree ≡ tree_length k → Resting k 0 row tree
unfolding ascending
none-waits k row tree small zeros tree-sized =
    record {
      small = small;
      waits =
          record {
            sized = rw zeros;
            few = omega arith;
            blank = subst (Blank 0) (sym zeros) zeros-blank;
            order = refl;
            leaves = all_nil (λ (x : Slot). words_format.tag x < 2 ^ k);
          };
      tree-sized = tree-sized;
    }

pub stopped-rests : {k : ℕ} {row tree : List ℕ} (r : Closed) → mark_of r.fault ≡ 9 → Rests k row tree r
stopped-rests r e = record { rests = λ other. let z : ⊥ = other e in absurd z }
