-- The program of a put and the earlier one: they want the same nodes, and come to the same outcome, but for a present key on a full map: there the one
-- node has another value, and the answer is another.
use Rattle.std.specs.Prelude.{◌≡◌, Bool, eqb}
use Rattle.std.proofs.Math.Path.{refl}
use Rattle.std.proofs.Common.{sym, ◌∙◌, ap, eqb-true}
use Rattle.std.proofs.Math.Bool.{true, false, or-false}
use mathlib.Core.List.Memᴰ
use mathlib.Core.List.{List, [], ◌∷◌, ◌++◌, map, map-append, append-nil, append_assoc, Memᴰ}
use Rattle.std.proofs.Math.Option.{Option, none, some}
use Prim.Native.Nat.{ℕ, zero, suc}
use Rattle.std.proofs.Math.Dec.{ltb}
use Rattle.list_spec.specs.Choice.{pick}
use Rattle.slot_spec.specs.Tree.{among}
use Rattle.method_spec.specs.Node.{Link, Node, with_child, with_value, link_to}
use Rattle.method_spec.specs.Prog.{From, Want, Prog, done, want, bind, start}
use Rattle.method_spec.specs.Answer.{Answer, replaced, full}
use Rattle.method_spec.specs.Outcome.{Outcome}
use Rattle.method_spec.specs.Map.{Step, Sub, top, Spot, gap, hit, link_of, listed, top_of, kids, nodes_at, seat, step_at, below, with_subtree, rest, walk, unwind, unwound, finish, put_step, put_prog}
use Rattle.bucket_call_spec.specs.Fetch.{Held}
use Rattle.word_round_laws.specs.JoinLaws.{among-append}
use Rattle.none_lost_laws.specs.Sound.{nodes_in}
use Rattle.promise_spec.specs.AsBefore.{earlier_put_step, earlier_put_prog}
use Rattle.full_put_laws.specs.Together.{Both, both-done, both-want, both-same}

-- ---- what upward over a path makes: the node at its end, and those passed, each with its new link
unfoldable relinked : List (Step ℕ) → Link ℕ → List (Node ℕ)
relinked [] l = []
relinked (p ∷ path) l = with_child p.way p.node l ∷ relinked path (link_to (with_child p.way p.node l))

unfoldable top_link : List (Step ℕ) → Link ℕ → Link ℕ
top_link [] l = l
top_link (p ∷ path) l = top_link path (link_to (with_child p.way p.node l))

seat-link : (s : Bool) (n : Node ℕ) (a b : Option (Node ℕ)) → link_of (seat s n a b) ≡ link_to n
seat-link true n a b = refl
seat-link false n a b = refl

seat-nodes : (s : Bool) (n : Node ℕ) (a : Option (Node ℕ)) → nodes_at (seat s n a none) ≡ listed a ++ (n ∷ [])
seat-nodes true n none = refl
seat-nodes true n (some m) = refl
seat-nodes false n a = refl

unwind-link : (path : List (Step ℕ)) (b : Sub ℕ) (out : List (Node ℕ)) → link_of (unwind path b out).sub ≡ top_link path (link_of b)
unfolding unwind top_link
unwind-link [] b out = refl
unwind-link (p ∷ path) b out =
    unwind-link path (rest p b).sub (out ++ (rest p b).out) ∙ ap (top_link path) (seat-link p.way (with_subtree p b) (top_of b) none)

unwind-nodes : (path : List (Step ℕ)) (b : Sub ℕ) (out : List (Node ℕ))
    → (let u = unwind path b out in u.out ++ nodes_at u.sub) ≡ (out ++ nodes_at b) ++ relinked path (link_of b)
unfolding unwind relinked
unwind-nodes [] b out = sym (append-nil (out ++ nodes_at b))
unwind-nodes (p ∷ path) b out =
    unwind-nodes path (rest p b).sub (out ++ (rest p b).out)
    ∙ rw (
      seat-link p.way (with_subtree p b) (top_of b) none,
      seat-nodes p.way (with_subtree p b) (top_of b),
      append_assoc out (kids b) (listed (top_of b) ++ (with_subtree p b ∷ [])),
      append_assoc out (kids b ++ listed (top_of b)) (with_subtree p b ∷ relinked path (link_to (with_subtree p b))),
      append_assoc (kids b) (listed (top_of b)) (with_subtree p b ∷ relinked path (link_to (with_subtree p b))),
      append_assoc out (kids b ++ (listed (top_of b) ++ (with_subtree p b ∷ []))) (relinked path (link_to (with_subtree p b))),
      append_assoc (kids b) (listed (top_of b) ++ (with_subtree p b ∷ [])) (relinked path (link_to (with_subtree p b))),
      append_assoc (listed (top_of b)) (with_subtree p b ∷ []) (relinked path (link_to (with_subtree p b))),
    )

-- ---- the outcomes
abbrev pub keys_held : List Held → List ℕ
keys_held hs = map (λ (h : Held). h.node.key) hs

unwound-outcome : (entries : ℕ) (a : Answer) (path : List (Step ℕ)) (n : Node ℕ)
    → finish entries a (unwind path (top n none none) [])
    ≡ record { nodes = n ∷ relinked path (link_to n); root = top_link path (link_to n); entries = entries; answer = a }
unwound-outcome entries a path n = rw (unwind-nodes path (top n none none) [], unwind-link path (top n none none) [])

-- The outcomes of the two puts, where the call holds hs: `room` says that the map is not full.
pub data Compared (key value : ℕ) (room : Bool) (hs : List Held) : Outcome ℕ → Outcome ℕ → Type 0 where
  -- There is room, or none of the held nodes has the key.
  same : pick room false (among key (keys_held hs)) ≡ false → (o : Outcome ℕ) → Compared key value room hs o o
  -- The map is full, and n, which is held, has the key.
  revalued : room ≡ false → (n : Node ℕ) (others : List (Node ℕ)) (root : Link ℕ) (entries : ℕ)
      → n.key ≡ key → Memᴰ n (nodes_in hs) → among key (keys_held hs) ≡ true
      → Compared key value room hs
      (record { nodes = with_value value n ∷ others; root = root; entries = entries; answer = replaced n.value })
      (record { nodes = n ∷ others; root = root; entries = entries; answer = full })

-- One more is held.
last-held : (hs : List Held) (f : From) (n : Node ℕ) → Memᴰ n (nodes_in (hs ++ (record { from = f; node = n } ∷ [])))
last-held hs f n =
    rw (map-append (λ (h : Held). h.node) hs (record { from = f; node = n } ∷ []))
    (Memᴰ.append_right (nodes_in hs) (Memᴰ.head refl))

last-key : (key : ℕ) (hs : List Held) (f : From) (n : Node ℕ) → among key (keys_held hs) ≡ false
    → among key (keys_held (hs ++ (record { from = f; node = n } ∷ []))) ≡ eqb key n.key
unfolding among
last-key key hs f n none-there =
    rw (
      map-append (λ (h : Held). h.node.key) hs (record { from = f; node = n } ∷ []),
      among-append key (keys_held hs) (n.key ∷ []),
      none-there,
      or-false (eqb key n.key),
    )

-- ---- after the walk
module _ (key value tag entries limit : ℕ) where
  abbrev step : Spot ℕ → Prog ℕ (Outcome ℕ)
  step = put_step 0 key value tag entries limit

  abbrev earlier_step : Spot ℕ → Prog ℕ (Outcome ℕ)
  earlier_step = earlier_put_step 0 key value tag entries limit

  -- Where there is room the steps are one.
  step_room : ltb entries limit ≡ true → (s : Spot ℕ) → earlier_step s ≡ step s
  unfolding put_step earlier_put_step
  step_room room (gap l path) = refl
  step_room room (hit w n path) = rw room

  hit-full : ltb entries limit ≡ false → (w : Want ℕ) (n : Node ℕ) (path : List (Step ℕ))
      → earlier_step (hit w n path) ≡ done (finish entries full (unwind path (top n none none) []))
  unfolding earlier_put_step unwound
  hit-full room w n path = rw room

  gap-full : ltb entries limit ≡ false → (l : Link ℕ) (path : List (Step ℕ)) → step (gap l path) ≡ done (finish entries full (unwound (gap l path)))
  unfolding put_step
  gap-full room l path = rw room

  gap_same : (l : Link ℕ) (path : List (Step ℕ)) → earlier_step (gap l path) ≡ step (gap l path)
  unfolding put_step earlier_put_step
  gap_same l path = refl

  abbrev R : List Held → Outcome ℕ → Outcome ℕ → Type 0
  R = Compared key value (ltb entries limit)

  room-both : ltb entries limit ≡ true → (hs : List Held) (s : Spot ℕ) → Both R hs (step s) (earlier_step s)
  room-both room hs s = rw (step_room room s) (both-same {R = R} (λ hs o. same (rw room refl) o) hs (step s))

  gap-both : (hs : List Held) (l : Link ℕ) (path : List (Step ℕ)) → among key (keys_held hs) ≡ false → Both R hs (step (gap l path)) (earlier_step (gap l path))
  gap-both hs l path none-there = go (ltb entries limit) refl
    where
      go : (room : Bool) → ltb entries limit ≡ room → Both R hs (step (gap l path)) (earlier_step (gap l path))
      go true e = room-both e hs (gap l path)
      go false e = rw (gap_same l path, gap-full e l path) (both-done {hs = hs} (same (rw (e, none-there) refl) (finish entries full (unwound (gap l path)))))

  hit-both : (hs : List Held) (w : Want ℕ) (n : Node ℕ) (path : List (Step ℕ)) → n.key ≡ key → Memᴰ n (nodes_in hs)
      → among key (keys_held hs) ≡ true → Both R hs (step (hit w n path)) (earlier_step (hit w n path))
  unfolding put_step
  hit-both hs w n path named held there = go (ltb entries limit) refl
    where
      go : (room : Bool) → ltb entries limit ≡ room → Both R hs (step (hit w n path)) (earlier_step (hit w n path))
      go true e = room-both e hs (hit w n path)
      go false e =
          rw (hit-full e w n path, unwound-outcome entries (replaced n.value) path (with_value value n), unwound-outcome entries full path n)
          (both-done (revalued e n (relinked path (link_to n)) (top_link path (link_to n)) entries named held there))

  -- ---- the walk
  walk-both : (fuel : ℕ) (w : Want ℕ) (path : List (Step ℕ)) (hs : List Held) → among key (keys_held hs) ≡ false
      → Both R hs (bind (walk key fuel w path) step) (bind (walk key fuel w path) earlier_step)
  unfolding walk bind
  walk-both zero w path hs none-there = gap-both hs w.link path none-there
  walk-both (suc fuel) w path hs none-there = go (λ n. walk-both fuel _ _ (given n)) (eqb w.link.height 0)
    where
      given : Node ℕ → List Held
      given n = hs ++ (record { from = w.from; node = n } ∷ [])

      next : Node ℕ → Prog ℕ (Spot ℕ)
      next n = walk key fuel (below (step_at w n (ltb key n.key))) (step_at w n (ltb key n.key) ∷ path)

      here : ((n : Node ℕ) → among key (keys_held (given n)) ≡ false → Both R (given n) (bind (next n) step) (bind (next n) earlier_step))
          → (n : Node ℕ) (hit-here : Bool) → eqb key n.key ≡ hit-here
          → Both R (given n) (bind (pick hit-here (done (hit w n path)) (next n)) step) (bind (pick hit-here (done (hit w n path)) (next n)) earlier_step)
      here further n true e =
          hit-both (given n) w n path (sym (eqb-true key n.key e)) (last-held hs w.from n) (last-key key hs w.from n none-there ∙ e)
      here further n false e = further n (last-key key hs w.from n none-there ∙ e)

      go : ((n : Node ℕ) → among key (keys_held (given n)) ≡ false → Both R (given n) (bind (next n) step) (bind (next n) earlier_step))
          → (ends : Bool)
          → Both R hs
          (bind (pick ends (done (gap w.link path)) (want w (λ n. pick (eqb key n.key) (done (hit w n path)) (next n)))) step)
          (bind (pick ends (done (gap w.link path)) (want w (λ n. pick (eqb key n.key) (done (hit w n path)) (next n)))) earlier_step)
      go further true = gap-both hs w.link path none-there
      go further false = both-want (λ n. here further n (eqb key n.key) refl)

  -- The two puts from any root link.
  pub puts-both : (l : Link ℕ) → Both R [] (put_prog 0 key value tag entries limit l) (earlier_put_prog 0 key value tag entries limit l)
  unfolding put_prog earlier_put_prog among
  puts-both l = walk-both l.height (start l) [] [] refl
