-- The write half on words, turn by turn: one slot goes to its home or is left, and at the end the path is the method's and the row has what is
-- left and nothing else.
use Rattle.std.specs.Prelude.{◌≡◌, refl, Bool, true, false, List, [], ◌∷◌, ◌++◌, map, ℕ, zero, suc, ◌+◌, ◌-◌, ◌*◌, ◌^◌, ◌≤◌, ◌<◌, ltb, length, take, drop, get_or, set, replicate}
use Rattle.std.proofs.Common.{sym, ◌∙◌, ap, ap₂, subst, append-nil, add-one, arith, length-append, length-take, length-drop, length-set, drop_of_length-le, pow_pos, get_or-take, get_or-drop, get_or-append-add, take-suc, take-suc-set, take-take, drop-cons, drop-drop, drop-set-lt, ltb-true}
use Rattle.std.proofs.lemmas.List.{length-map, length-replicate, replicate-append-replicate, take-set-le, drop-set-add, set_at}
use Rattle.std.proofs.Math.ListN.{get_or-map}
use Rattle.std.proofs.lemmas.List.Edits.{sets}
use Rattle.std.proofs.Math.Seq.{take-set-lt}
use Rattle.list_spec.specs.Choice.{pick}
use Rattle.list_laws.specs.DistinctLaws.{all_get_d}
use Rattle.slot_spec.specs.Tree.{path, path_bucket, leaf_bucket, bucket_start, tree_length}
use Rattle.slot_laws.specs.TreeLaws.{halvings-length}
use Rattle.slot_spec.specs.Slot.{slot_bytes, fields_in}
use Rattle.slot_spec.specs.declared.Slot.{Slot}
use Rattle.round_spec.specs.Round.{Written, write_half}
use Rattle.round_spec.specs.Nodes.{words_format}
use Rattle.word_round_laws.specs.SlotRow.{places, row_length, slots_in, Blank, levels, Leaves}
use Rattle.slot_spec.specs.Row.{zero_slot}
use Rattle.word_round_laws.specs.SlotRowLaws.{slots-count, words-tag}
use Rattle.word_round_laws.specs.Stash.{without, removed}
use Rattle.word_round_laws.specs.PartLaws.{Part, part-whole, part_without, part-holds}
use Rattle.word_round_laws.specs.Fill.{meeting, crowded, room_from, cleared, Filling, fill, home, added, written, empties}
use Rattle.word_round_laws.specs.FillLaws.{fill-contents-length, fill_none, fill-one-home, fill-one-left, evict-fill}
use Rattle.word_round_laws.specs.MeetLaws.{home-on-path}
use Rattle.word_round_laws.specs.StoreLaws.{written-more, written-length, cleared-written}
use Rattle.eviction.specs.Settle.{PathFilled, Settled}

-- ---- room
crowded-room : (us : List ℕ) → crowded us < length us → get_or us (crowded us) 0 < 4
unfolding crowded
crowded-room [] h = let z : ⊥ = omega arith in absurd z
crowded-room (u ∷ us) h = go (crowded-room us) (ltb u 4) refl h
  where
    go : (crowded us < length us → get_or us (crowded us) 0 < 4) → (t : Bool) → ltb u 4 ≡ t
        → pick t 0 (suc (crowded us)) < suc (length us) → get_or (u ∷ us) (pick t 0 (suc (crowded us))) 0 < 4
    go more true q h = ltb-true u 4 q
    go more false q h = more (omega arith)

room-there : (from : ℕ) (us : List ℕ) → room_from from us < length us → get_or us (room_from from us) 0 < 4
room-there from us h =
    let l = length-drop from us in
    rw (← get_or-drop from us (crowded (drop from us)) 0) (crowded-room (drop from us) (omega arith))

-- ---- the loop over the slots
map-set : {A B : Type 0} (f : A → B) (l : List A) (i : ℕ) (a : A) → map f (set l i a) ≡ set (map f l) i (f a)
map-set f [] i a = refl
map-set f (x ∷ l) zero a = refl
map-set {B = B} f (x ∷ l) (suc i) a = ap (λ (m : List B). f x ∷ m) (map-set f l i a)

-- What some slots fill of the path, which held nothing before.
abbrev pub filled_with : ℕ → ℕ → List Slot → Filling Slot
filled_with k t xs = fill words_format k (path k t) (empties (path k t)) xs

-- Some slots were placed: how many each bucket holds is counted, what they hold is written, and the others are left.
pub record Placing (k t : ℕ) (tree : List ℕ) (xs : List Slot) (now used : List ℕ) (rest : List Slot) : Type 0 where
  pub used-sized : length used ≡ levels
  pub counts : take (k + 1) used ≡ map length (filled_with k t xs).contents
  pub filled : now ≡ written words_format tree (path k t) (filled_with k t xs).contents
  pub left : rest ≡ (filled_with k t xs).left

empty-counts : (bs : List ℕ) → map length (empties {E = Slot} bs) ≡ replicate (length bs) 0
empty-counts [] = refl
empty-counts (b ∷ bs) = ap (λ (l : List ℕ). 0 ∷ l) (empty-counts bs)

take-zeros : (n m : ℕ) → n ≤ m → take {A = ℕ} n (replicate m 0) ≡ replicate n 0
take-zeros zero m h = refl
take-zeros (suc n) zero h = let z : ⊥ = omega arith in absurd z
take-zeros (suc n) (suc m) h = ap (λ (l : List ℕ). 0 ∷ l) (take-zeros n m (omega arith))

pub placing-start : (k t : ℕ) (tree now : List ℕ) → k < levels → now ≡ cleared tree (path k t) → Placing k t tree [] now (replicate levels 0) []
placing-start k t tree now s e =
    let z = fill_none words_format k (path k t) (empties (path k t)) in
    let l : length (path k t) ≡ k + 1 = halvings-length k (leaf_bucket k t) ∙ omega arith in
    record {
      used-sized = refl;
      counts = rw z (take-zeros (k + 1) levels (omega arith) ∙ sym (empty-counts (path k t) ∙ ap (λ (i : ℕ). replicate i 0) l));
      filled = rw z (e ∙ cleared-written (path k t) tree);
      left = rw z;
    }

-- One more slot, and the level that was found for it.
module _ (k t : ℕ) (tree : List ℕ) (xs : List Slot) (now used : List ℕ) (rest : List Slot) (level : ℕ) (x : Slot)
    (size : k < levels) (leaf : t < 2 ^ k) (tag : words_format.tag x < 2 ^ k) (is : length tree ≡ tree_length k)
    (p : Placing k t tree xs now used rest) (found : level ≡ room_from (meeting t (words_format.tag x)) (take (k + 1) used)) where
  abbrev cs : List (List Slot)
  cs = (filled_with k t xs).contents

  path-length : length (path k t) ≡ k + 1
  path-length = halvings-length k (leaf_bucket k t) ∙ omega arith

  empties-length : length (empties {E = Slot} (path k t)) ≡ length (path k t)
  empties-length = length-map (path k t) (λ (b : ℕ). [])

  contents-length : length cs ≡ length (path k t)
  contents-length = fill-contents-length words_format k (path k t) (empties (path k t)) xs ∙ empties-length

  is_home : home words_format k (path k t) cs (words_format.tag x) ≡ level
  is_home =
      home-on-path words_format k (words_format.tag x) t cs (omega arith) leaf tag contents-length
      ∙ ap (room_from (meeting t (words_format.tag x))) (sym p.counts)
      ∙ sym found

  used-there : level ≤ k → get_or used level 0 ≡ length (get_or cs level [])
  used-there h =
      sym (get_or-take (k + 1) used level 0 (omega arith))
      ∙ ap (λ (l : List ℕ). get_or l level 0) p.counts
      ∙ get_or-map length cs level []

  pub has_room : level ≤ k → get_or used level 0 < 4
  has_room h =
      let l : length (take (k + 1) used) ≡ k + 1 = simp length-take (omega (arith, p.used-sized)) in
      let r = room-there (meeting t (words_format.tag x)) (take (k + 1) used) (rw (← found) (omega arith)) in
      rw (← get_or-take (k + 1) used level 0 (omega arith)) (rw (← found) at r)

  pub placing-stored : (tree' : List ℕ) → level ≤ k → tree' ≡ sets now (bucket_start (path_bucket k t level) + 32 * get_or used level 0) (slot_bytes x)
      → Placing k t tree (xs ++ x ∷ []) tree' (set used level (get_or used level 0 + 1)) rest
  placing-stored tree' h q =
      let pl = path-length in
      let f = fill-one-home words_format k (path k t) (empties (path k t)) empties-length xs x (rw is_home (omega arith)) in
      let g : filled_with k t (xs ++ x ∷ []) ≡ record { contents = added words_format cs level x; left = (filled_with k t xs).left } = f ∙ rw is_home in
      let u = used-there h in
      let r = has_room h in
      let w : 2 ^ (k + 1) ≡ 2 * 2 ^ k = rw (add-one k) (omega arith) in
      let o = pow_pos k in
      let one : get_or used level 0 + 1 ≡ length (get_or cs level [] ++ x ∷ []) = simp length-append (omega arith) in
      record {
        used-sized = length-set used level (get_or used level 0 + 1) ∙ p.used-sized;
        counts = rw g (take-set-lt (k + 1) used level (get_or used level 0 + 1) (omega arith) ∙ rw (p.counts, one) (sym (map-set length cs level (get_or cs level [] ++ x ∷ []))));
        filled = rw g (q ∙ rw (p.filled, u) (written-more k (leaf_bucket k t) cs tree level x (omega arith) (omega arith) h (let n = contents-length in omega arith) (omega arith)));
        left = rw g p.left;
      }

  pub placing-left : k < level → Placing k t tree (xs ++ x ∷ []) now used (rest ++ x ∷ [])
  placing-left h =
      let pl = path-length in
      let g = fill-one-left words_format k (path k t) (empties (path k t)) empties-length xs x (rw is_home (omega arith)) in
      record {
        used-sized = p.used-sized;
        counts = rw g p.counts;
        filled = rw g p.filled;
        left = rw g (ap (λ (l : List Slot). l ++ x ∷ []) p.left);
      }

-- ---- all but one of the first
module _ {A : Type 0} where
  pub without-none : (out : ℕ) → without {E = A} out [] ≡ []
  without-none zero = refl
  without-none (suc out) = refl

  -- Number i joins those without number out, or it is that one.
  without-next : (l : List A) (out i : ℕ) (d : A) → i < length l → (i ≡ out → ⊥) → without out (take (suc i) l) ≡ without out (take i l) ++ get_or l i d ∷ []
  without-next [] out i d h n = let z : ⊥ = omega arith in absurd z
  without-next (x ∷ l) zero zero d h n = absurd (n refl)
  without-next (x ∷ l) (suc out) zero d h n = ap (λ (m : List A). x ∷ m) (without-none out)
  without-next (x ∷ l) zero (suc i) d h n = take-suc l i d (omega arith)
  without-next (x ∷ l) (suc out) (suc i) d h n = ap (λ (m : List A). x ∷ m) (without-next l out i d (omega arith) (λ e. n (ap suc e)))

  pub without_more : (l : List A) (out i : ℕ) (d : A) → i < length l → (i ≡ out → ⊥) → without out (take (i + 1) l) ≡ without out (take i l) ++ get_or l i d ∷ []
  without_more l out i d h n = rw (add-one i) (without-next l out i d h n)

  without-itself : (l : List A) (out : ℕ) → without out (take (suc out) l) ≡ without out (take out l)
  without-itself [] zero = refl
  without-itself [] (suc out) = refl
  without-itself (x ∷ l) zero = refl
  without-itself (x ∷ l) (suc out) = ap (λ (m : List A). x ∷ m) (without-itself l out)

  pub without-same : (l : List A) (out i : ℕ) → i ≡ out → without out (take (i + 1) l) ≡ without out (take i l)
  without-same l out i e = rw (e, add-one out) (without-itself l out)

  -- Without a number past the end there is all.
  pub without-past : (m : ℕ) (l : List A) → without m (take m l) ≡ take m l
  without-past m l =
      let z : drop (suc m) (take m l) ≡ [] = drop_of_length-le (take m l) {i = suc m} (let n = length-take m l in omega arith) in
      rw (z, append-nil (take m (take m l))) (take-take m m l (omega arith))

-- ---- a turn: slot number i is asked
pub tag-leaf : (k m i : ℕ) (l : List Slot) (x : Slot) → Leaves k (take m l) → i < m → m ≤ length l → x ≡ get_or l i zero_slot → words_format.tag x < 2 ^ k
tag-leaf k m i l x v h n got =
    subst (λ (y : Slot). words_format.tag y < 2 ^ k) (sym (got ∙ sym (get_or-take m l i zero_slot h)))
    (all_get_d {P = λ (y : Slot). words_format.tag y < 2 ^ k} (take m l) v i zero_slot (let t = length-take m l in omega arith))

-- The level that was found, by what the code has of the slot's tag.
pub found-level : (k t : ℕ) (used : List ℕ) (x : Slot) (tag g level : ℕ) → tag ≡ (fields_in (slot_bytes x)).tag → g ≡ meeting t tag → level ≡ room_from g (take (k + 1) used)
    → level ≡ room_from (meeting t (words_format.tag x)) (take (k + 1) used)
found-level k t used x tag g level e f q = q ∙ ap (λ (i : ℕ). room_from i (take (k + 1) used)) (f ∙ ap (meeting t) (e ∙ sym (words-tag x)))

module _ (k t m out i : ℕ) (l : List Slot) (tree now used : List ℕ) (rest : List Slot) (level : ℕ) (x : Slot)
    (size : k < levels) (leaf : t < 2 ^ k) (is : length tree ≡ tree_length k) (v : Leaves k (take m l)) (h : i < m) (n : m ≤ length l) (got : x ≡ get_or l i zero_slot)
    (p : Placing k t tree (without out (take i l)) now used rest) (found : level ≡ room_from (meeting t (words_format.tag x)) (take (k + 1) used)) where
  next : (i ≡ out → ⊥) → without out (take i l) ++ x ∷ [] ≡ without out (take (i + 1) l)
  next d = sym (without_more l out i zero_slot (omega arith) d ∙ ap (λ (y : Slot). without out (take i l) ++ y ∷ []) (sym got))

  pub turn-room : level ≤ k → get_or used level 0 < 4
  turn-room g = has_room k t tree (without out (take i l)) now used rest level x size leaf (tag-leaf k m i l x v h n got) is p found g

  pub turn-stored : (tree' : List ℕ) → (i ≡ out → ⊥) → level ≤ k → tree' ≡ sets now (bucket_start (path_bucket k t level) + 32 * get_or used level 0) (slot_bytes x)
      → Placing k t tree (without out (take (i + 1) l)) tree' (set used level (get_or used level 0 + 1)) rest
  turn-stored tree' d g q =
      subst (λ (ws : List Slot). Placing k t tree ws tree' (set used level (get_or used level 0 + 1)) rest) (next d)
      (placing-stored k t tree (without out (take i l)) now used rest level x size leaf (tag-leaf k m i l x v h n got) is p found tree' g q)

  pub turn-left : (i ≡ out → ⊥) → k < level → Placing k t tree (without out (take (i + 1) l)) now used (rest ++ x ∷ [])
  turn-left d g =
      subst (λ (ws : List Slot). Placing k t tree ws now used (rest ++ x ∷ [])) (next d)
      (placing-left k t tree (without out (take i l)) now used rest level x size leaf (tag-leaf k m i l x v h n got) is p found g)

-- The tree keeps its length.
pub placing-length : (k t : ℕ) (tree : List ℕ) (xs : List Slot) (now used : List ℕ) (rest : List Slot) → length tree ≡ tree_length k → t < 2 ^ k
    → Placing k t tree xs now used rest → length now ≡ tree_length k
placing-length k t tree xs now used rest is leaf p =
    let w : 2 ^ (k + 1) ≡ 2 * 2 ^ k = rw (add-one k) (omega arith) in
    let o = pow_pos k in
    ap length p.filled ∙ written-length k (leaf_bucket k t) (filled_with k t xs).contents tree (omega arith) ∙ is

-- ---- the row, place by place
-- The first i places were asked: the slots that are left stand first, the others of the i places are empty, and the rest is as it was.
pub record Swept (first : List Slot) (i : ℕ) (row : List ℕ) (kept : ℕ) : Type 0 where
  pub sized : length row ≡ row_length
  pub fewer : kept ≤ i
  pub rest : drop kept (slots_in row) ≡ replicate (i - kept) zero_slot ++ drop i first

pub swept-start : (row : List ℕ) → length row ≡ row_length → Swept (slots_in row) 0 row 0
swept-start row sized = record { sized = sized; fewer = omega arith; rest = refl }

-- One more empty place behind some.
zeros-more : (n : ℕ) (l : List Slot) → replicate n zero_slot ++ zero_slot ∷ l ≡ replicate (suc n) zero_slot ++ l
zeros-more zero l = refl
zeros-more (suc n) l = ap (λ (m : List Slot). zero_slot ∷ m) (zeros-more n l)

module _ (first : List Slot) (i : ℕ) (row : List ℕ) (kept : ℕ) (s : Swept first i row kept) where
  -- The next place has its slot still.
  pub swept-got : get_or (slots_in row) i zero_slot ≡ get_or first i zero_slot
  swept-got =
      let e : i ≡ kept + (i - kept) = omega (arith, s.fewer) in
      let n = length-replicate (i - kept) zero_slot in
      let z : i + 0 ≡ i = omega arith in
      let j : length (replicate (i - kept) zero_slot) + 0 ≡ i - kept = omega arith in
      ap (λ (j : ℕ). get_or (slots_in row) j zero_slot) e
      ∙ sym (get_or-drop kept (slots_in row) (i - kept) zero_slot)
      ∙ ap (λ (l : List Slot). get_or l (i - kept) zero_slot) s.rest
      ∙ ap (λ (m : ℕ). get_or (replicate (i - kept) zero_slot ++ drop i first) m zero_slot) (sym j)
      ∙ get_or-append-add (replicate (i - kept) zero_slot) (drop i first) 0 zero_slot
      ∙ get_or-drop i first 0 zero_slot
      ∙ ap (λ (j : ℕ). get_or first j zero_slot) z

  -- It is emptied.
  module _ (row' : List ℕ) (e : slots_in row' ≡ set (slots_in row) i zero_slot) where
    pub swept-front : take kept (slots_in row') ≡ take kept (slots_in row)
    swept-front = ap (take kept) e ∙ take-set-le kept (slots_in row) i zero_slot s.fewer

    pub swept-emptied : i < length first → length row' ≡ row_length → Swept first (i + 1) row' kept
    swept-emptied h n =
        let at : i ≡ kept + (i - kept) = omega (arith, s.fewer) in
        let more : suc (i - kept) ≡ i + 1 - kept = omega (arith, s.fewer) in
        let zs = replicate (i - kept) zero_slot in
        record {
          sized = n;
          fewer = omega (arith, s.fewer);
          rest =
              ap (drop kept) (e ∙ ap (λ (j : ℕ). set (slots_in row) j zero_slot) at)
              ∙ drop-set-add kept (slots_in row) (i - kept) zero_slot
              ∙ ap (λ (l : List Slot). set l (i - kept) zero_slot) (s.rest ∙ ap (λ (l : List Slot). zs ++ l) (drop-cons first i zero_slot h))
              ∙ set_at zs (get_or first i zero_slot) (drop (suc i) first) zero_slot (i - kept) (length-replicate (i - kept) zero_slot)
              ∙ zeros-more (i - kept) (drop (suc i) first)
              ∙ ap₂ (λ (n j : ℕ). replicate n zero_slot ++ drop j first) more (sym (add-one i));
        }

-- And its slot is left.
module _ (first : List Slot) (i : ℕ) (row : List ℕ) (kept : ℕ) (x : Slot) (row' : List ℕ)
    (s : Swept first (i + 1) row kept) (h : kept ≤ i) (e : slots_in row' ≡ set (slots_in row) kept x) where
  pub swept-left : kept < places → take (kept + 1) (slots_in row') ≡ take kept (slots_in row) ++ x ∷ []
  swept-left b = rw (add-one kept, e) (take-suc-set (slots_in row) kept x (let l = slots-count row in omega arith))

  pub swept-put : length row' ≡ row_length → Swept first (i + 1) row' (kept + 1)
  swept-put n =
      let less : i + 1 - kept ≡ suc (i + 1 - (kept + 1)) = omega arith in
      record {
        sized = n;
        fewer = omega arith;
        rest =
            ap (drop (kept + 1)) e
            ∙ drop-set-lt (kept + 1) (slots_in row) kept x (omega arith)
            ∙ sym (drop-drop 1 kept (slots_in row))
            ∙ ap (drop 1) (s.rest ∙ ap (λ (j : ℕ). replicate j zero_slot ++ drop (i + 1) first) less);
      }

-- All were asked.
swept-blank : (row : List ℕ) (m : ℕ) (row' : List ℕ) (kept : ℕ) → m ≤ places → Blank m row → Swept (slots_in row) m row' kept → Blank kept row'
swept-blank row m row' kept h b s =
    let e : m - kept + (places - m) ≡ places - kept = omega (arith, s.fewer) in
    s.rest
    ∙ ap (λ (l : List Slot). replicate (m - kept) zero_slot ++ l) b
    ∙ replicate-append-replicate (m - kept) (places - m) zero_slot
    ∙ ap (λ (j : ℕ). replicate j zero_slot) e

-- ---- the path is filled
pub path-filled : (k t : ℕ) (tree : List ℕ) (xs : List Slot) (now used : List ℕ) (m : ℕ) (row row' : List ℕ) (kept : ℕ) → m ≤ places → Blank m row
    → Swept (slots_in row) m row' kept → Placing k t tree xs now used (take kept (slots_in row')) → PathFilled k t xs m tree row' now kept
path-filled k t tree xs now used m row row' kept h b s p =
    record {
      sized = s.sized;
      fewer = s.fewer;
      blank = swept-blank row m row' kept h b s;
      half = evict-fill words_format k (path k t) xs tree ∙ rw (p.left, p.filled);
    }

-- ---- one taken out
pub removed-part : (want : Bool) (at : ℕ) (ws : List Slot) → Part (removed want at ws) ws
removed-part true at ws = part_without at ws
removed-part false at ws = part-whole ws

pub removed-leaves : (k : ℕ) (want : Bool) (at : ℕ) (ws : List Slot) → Leaves k ws → Leaves k (removed want at ws)
removed-leaves k want at ws v = part-holds {P = λ (y : Slot). words_format.tag y < 2 ^ k} (removed-part want at ws) v

-- The write half: the path was filled by all but the one that is taken out.
pub settled : (k leaf m : ℕ) (want : Bool) (at out : ℕ) (row tree row' tree' : List ℕ) (r : ℕ)
    → m ≤ places → without out (take m (slots_in row)) ≡ removed want at (take m (slots_in row))
    → PathFilled k leaf (without out (take m (slots_in row))) m tree row' tree' r
    → Settled k leaf m want at row tree row' tree' r
settled k leaf m want at out row tree row' tree' r room e p =
    let w : write_half words_format k leaf (removed want at (take m (slots_in row))) tree ≡ record { waiting = take r (slots_in row'); tree = tree' } =
    ap (λ (ws : List Slot). write_half words_format k leaf ws tree) (sym e) ∙ p.half in
    let c = slots-count row' in
    let l = length-take r (slots_in row') in
    record {
      sized = p.sized;
      fewer = p.fewer;
      blank = p.blank;
      half = w;
      counted = sym (ap (λ (v : Written Slot). length v.waiting) w ∙ omega (arith, p.fewer));
    }
