-- What looking answers is the read half's: one law for each return.
use Rattle.std.specs.Prelude.{◌≡◌, true, List, ◌++◌, ℕ, ◌+◌, ◌*◌, ◌≤◌, ◌<◌, length, take, get_or, Option, Some, None}
use Rattle.std.proofs.Common.{sym, ◌∙◌, ap, arith, length-take, get_or-take}
use Rattle.std.proofs.Math.Option.{none, some}
use Rattle.slot_spec.specs.Tree.{path}
use Rattle.slot_spec.specs.Slot.{fields_in, slot_bytes, node_of}
use Rattle.slot_spec.specs.declared.Slot.{Slot}
use Rattle.slot_spec.specs.declared.Node.{Node as NodeOf}
use Rattle.round_spec.specs.Round.{keys_of, none_twice, read_buckets, read_half, granted, granted_from}
use Rattle.round_spec.specs.Nodes.{words_format}
use Rattle.word_round_laws.specs.SlotRow.{places, slots_in}
use Rattle.slot_spec.specs.Row.{zero_slot}
use Rattle.word_round_laws.specs.SlotRowLaws.{slots-count, words-tag}
use Rattle.word_round_laws.specs.Stash.{position}
use Rattle.path_reader.specs.Joined.{AllJoined, NoneJoined}
use Rattle.path_reader.specs.JoinedLaws.{path-readings}
use Rattle.path_reader.specs.Look.{wish_of, hand_of, Granted}
use Rattle.word_round_laws.specs.LookLaws.{half-joined, from-damage, from-joined, granted-nothing, granted-missing, granted-other, granted-found}
use Rattle.path_reader.specs.declared.Wish.{Wish}

module _ (k leaf n : ℕ) (waiting tree held : List ℕ) (distinct : none_twice (keys_of words_format (take n (slots_in waiting)) ++ held) ≡ true) where
  -- Damage on the path.
  pub half-damage : (wish : Option Wish) (after : List ℕ) → NoneJoined held (read_buckets words_format k tree (path k leaf)) n waiting after
      → read_half words_format k tree leaf (wish_of wish) held (take n (slots_in waiting)) ≡ none
  half-damage wish after read =
      half-joined words_format k tree leaf (wish_of wish) held (take n (slots_in waiting)) distinct
      ∙ ap (granted_from words_format (wish_of wish)) read.refused
      ∙ from-damage words_format (wish_of wish)

  module _ (row : List ℕ) (count : ℕ) (read : AllJoined k held (read_buckets words_format k tree (path k leaf)) n waiting row count) where
    half-granted : (wish : Option Wish)
        → read_half words_format k tree leaf (wish_of wish) held (take n (slots_in waiting)) ≡ granted words_format (wish_of wish) (take count (slots_in row))
    half-granted wish =
        half-joined words_format k tree leaf (wish_of wish) held (take n (slots_in waiting)) distinct
        ∙ ap (granted_from words_format (wish_of wish)) read.joined
        ∙ from-joined words_format (wish_of wish) (take count (slots_in row))

    pub within-path : count ≤ n + 4 * (k + 1)
    within-path = let h = read.within in let e = path-readings k tree leaf in omega arith

    -- Nothing is wanted.
    pub looked-nothing : (m : NodeOf) (full : ℕ) → Granted k leaf None n waiting tree held row (record { count = count; at = 0; node = m; full = full })
    looked-nothing m full =
        record {
          half = half-granted None ∙ granted-nothing words_format (take count (slots_in row));
          blank = read.blank;
          within = within-path;
          inside = λ w. let y : ◌≡◌ {A = ℕ} 0 1 = cc in absurd (omega arith);
          node = λ w. let y : ◌≡◌ {A = ℕ} 0 1 = cc in absurd (omega arith);
          leaves = read.leaves;
        }

    module _ (wish : Wish) (at : ℕ) (fits : count ≤ places) (position-is : at ≡ position words_format wish.key (take count (slots_in row))) where
      count-is : length (take count (slots_in row)) ≡ count
      count-is = let c = slots-count row in length-take count (slots_in row) ∙ omega arith

      -- The wanted one is missing.
      pub half-missing : count ≤ at → read_half words_format k tree leaf (wish_of (Some wish)) held (take n (slots_in waiting)) ≡ none
      half-missing h =
          half-granted (Some wish)
          ∙ granted-missing words_format wish.key wish.tag (take count (slots_in row)) (let c = count-is in omega arith)

      module _ (there : at < count) (x : Slot) (got : x ≡ get_or (slots_in row) at zero_slot) where
        at-inside : position words_format wish.key (take count (slots_in row)) < length (take count (slots_in row))
        at-inside = let c = count-is in omega arith

        taken_is : get_or (take count (slots_in row)) (position words_format wish.key (take count (slots_in row))) zero_slot ≡ x
        taken_is =
            ap (λ (i : ℕ). get_or (take count (slots_in row)) i zero_slot) (sym position-is)
            ∙ get_or-take count (slots_in row) at zero_slot there
            ∙ sym got

        tag_is : (t : ℕ) → t ≡ (fields_in (slot_bytes x)).tag → words_format.tag (get_or (take count (slots_in row)) (position words_format wish.key (take count (slots_in row))) zero_slot) ≡ t
        tag_is t e = ap (λ (y : Slot). words_format.tag y) taken_is ∙ words-tag x ∙ sym e

        -- It is there under another tag.
        pub half-other : (t : ℕ) → t ≡ (fields_in (slot_bytes x)).tag → (t ≡ wish.tag → ⊥)
            → read_half words_format k tree leaf (wish_of (Some wish)) held (take n (slots_in waiting)) ≡ none
        half-other t e d =
            half-granted (Some wish)
            ∙ granted-other words_format wish.key wish.tag (take count (slots_in row)) zero_slot at-inside (λ q. d (sym (tag_is t e) ∙ q))

        -- It is found.
        pub looked-found : (t : ℕ) → t ≡ (fields_in (slot_bytes x)).tag → t ≡ wish.tag → (m : NodeOf) (full : ℕ) → m ≡ node_of (fields_in (slot_bytes x))
            → Granted k leaf (Some wish) n waiting tree held row (record { count = count; at = at; node = m; full = full })
        looked-found t e d m full q =
            record {
              half = half-granted (Some wish)
                  ∙ granted-found words_format wish.key wish.tag (take count (slots_in row)) zero_slot at-inside (tag_is t e ∙ d)
                  ∙ ap (λ (i : ℕ). some (hand_of true i (take count (slots_in row)))) (sym position-is);
              blank = read.blank;
              within = within-path;
              inside = λ _. there;
              node = λ _. q ∙ ap (λ (y : Slot). node_of (fields_in (slot_bytes y))) got;
              leaves = read.leaves;
            }
