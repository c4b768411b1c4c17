-- The origin rule names no draw twice: of any structure whose programs are safe, for any list of calls, the names are as
-- many as the places, no two are the same, and each is a draw of a call made so far.
use Rattle.std.specs.Prelude.{ℕ, zero, suc, ◌+◌, ◌*◌, ◌≤◌, ◌<◌, ◌≡◌, refl, ◌⊎◌, length, get_or, take, drop}
use Rattle.std.proofs.Common.{sym, ◌∙◌, ap, inl, inr, arith, length-take, take-append-drop}
use Rattle.std.proofs.Math.Logic.{⊎_elim, ⊎_map}
use mathlib.Core.List.Memᴰ
use mathlib.Core.List.{List, [], ◌++◌, Memᴰ}
use Rattle.std.proofs.Math.ListN.{get_or-append}
use Rattle.list_laws.specs.PermLaws.{perm-sym, perm-member}
use Rattle.list_spec.specs.Distinct.{Distinct, All}
use Rattle.list_laws.specs.DistinctLaws.{all_nil, all_append, all_get_d, distinct-perm, distinct-left, distinct_append}
use Rattle.method_spec.specs.Answer.{Structure, Op}
use Rattle.method_spec.specs.Rounds.{spare}
use Rattle.method_spec.specs.Call.{Memory, capacity, empty_memory, draws_from, Ran, run}
use Rattle.method_spec.specs.Origin.{Origin, no_draw, drawn, origins, names}
use Rattle.run_laws.specs.Calls.{own_draws, all_draws, tags_of, tags-empty, run_length, run-append, Keeps, keeps-run}

-- ---- draws as origins

pub draws-member : {T : Type 0} {t : T} (draw : ℕ → T) (n d : ℕ) → Memᴰ t (draws_from draw n d)
    → (e : ℕ) × (d ≤ e) × (e < d + n) × (t ≡ draw e)
unfolding draws_from
draws-member draw zero d m = absurd (Memᴰ.not-nil m)
draws-member {T} {t} draw (suc n) d m = go (λ k. draws-member draw n (suc d) k) (Memᴰ.cases_cons m)
  where
    go : (Memᴰ t (draws_from draw n (suc d)) → (e : ℕ) × (suc d ≤ e) × (e < suc d + n) × (t ≡ draw e))
        → (t ≡ draw d) ⊎ Memᴰ t (draws_from draw n (suc d)) → (e : ℕ) × (d ≤ e) × (e < d + suc n) × (t ≡ draw e)
    go later (inl e) = (d, omega arith, omega arith, e)
    go later (inr k) = let r = later k in (r.0, omega arith, omega arith, r.3)

origin-draws-distinct : (c n d : ℕ) → Distinct (draws_from (drawn c) n d)
unfolding draws_from
origin-draws-distinct c zero d = tt
origin-draws-distinct c (suc n) d = (
  λ m. let r = draws-member (drawn c) n (suc d) m in let e = ap (λ (o : Origin). o.draw) r.3 in omega arith,
  origin-draws-distinct c n (suc d),
)

-- A draw of the tapes of n calls from call c, where each has so many draws.
abbrev pub OnTape : (count c n : ℕ) → Origin → Type 0
OnTape count c n o = (c ≤ o.call) × (o.call < c + n) × (o.draw < count)

own-draws : (count c : ℕ) → All (λ o. (o.call ≡ c) × (o.draw < count)) (own_draws count (drawn c))
own-draws count c o m =
    let r = draws-member (drawn c) count 0 m in
    let d = ap (λ (o : Origin). o.draw) r.3 in
    (ap (λ (o : Origin). o.call) r.3, omega arith)

all-draws : (count c n : ℕ) → All (OnTape count c n) (all_draws count drawn c n)
unfolding all_draws
all-draws count c zero = all_nil (OnTape count c 0)
all-draws count c (suc n) =
    all_append {P = OnTape count c (suc n)} (own_draws count (drawn c))
    (λ o m. let own = own-draws count c o m in (omega arith, omega arith, omega arith))
    (λ o m. let later = all-draws count (suc c) n o m in (omega arith, omega arith, omega arith))

all-draws-distinct : (count c n : ℕ) → Distinct (all_draws count drawn c n)
unfolding all_draws
all-draws-distinct count c zero = tt
all-draws-distinct count c (suc n) =
    distinct_append (own_draws count (drawn c)) (all_draws count drawn (suc c) n)
    (origin-draws-distinct c count 0) (all-draws-distinct count (suc c) n)
    (λ o m k. let own = own-draws count c o m in let later = all-draws count (suc c) n o k in omega arith)

-- ---- any structure whose programs are safe

module _ {s : Structure} {rounds limit : ℕ} {Inv : Memory Origin → Type 0} (keeps : Keeps s no_draw rounds limit Inv)
    (c : ℕ) (ops : List (Op s)) (m : Memory Origin) (inv : Inv m) where
  -- The calls on a memory, numbered from c: what they show is a tag that waited, or one of their own draws; and so are the
  -- tags that wait afterwards.
  pub names-from : All (λ o. Memᴰ o (tags_of s m) ⊎ OnTape (2 * rounds + spare s) c (length ops) o)
      ((run no_draw rounds limit drawn c ops m).revealed ++ tags_of s (run no_draw rounds limit drawn c ops m).memory)
  names-from o i =
      let a = (keeps-run keeps drawn c ops m inv).1 in
      ⊎_map (λ (k : Memᴰ o (tags_of s m)). k) (all-draws (2 * rounds + spare s) c (length ops) o)
      (Memᴰ.append_cases (tags_of s m) (perm-member a.balanced (Memᴰ.append_left a.dropped i)))

  -- Where the tags that wait are distinct and of earlier calls, no name is shown twice, and no_draw that was shown waits.
  pub names-distinct : Distinct (tags_of s m) → All (λ o. o.call < c) (tags_of s m)
      → Distinct ((run no_draw rounds limit drawn c ops m).revealed ++ tags_of s (run no_draw rounds limit drawn c ops m).memory)
  names-distinct distinct earlier =
      let a = (keeps-run keeps drawn c ops m inv).1 in
      distinct-left
      ((run no_draw rounds limit drawn c ops m).revealed ++ tags_of s (run no_draw rounds limit drawn c ops m).memory)
      a.dropped
      (distinct-perm (perm-sym a.balanced)
      (distinct_append (tags_of s m) (all_draws (2 * rounds + spare s) drawn c (length ops)) distinct
      (all-draws-distinct (2 * rounds + spare s) c (length ops))
      (λ o i k. let before = earlier o i in let own = all-draws (2 * rounds + spare s) c (length ops) o k in omega arith)))

-- ---- the origin rule, from the empty structure

-- One name for each place, whatever the structure.
pub names-count : {s : Structure} (rounds size : ℕ) (ops : List (Op s)) → length (names rounds size ops) ≡ length ops * (2 * rounds)
unfolding origins
names-count rounds size ops = run_length no_draw rounds (capacity size) drawn 1 ops (empty_memory no_draw)

-- The names of the first calls do not depend on the later ones.
pub names-prefix : {s : Structure} (rounds size : ℕ) (xs ys : List (Op s))
    → (later : List Origin) × (names rounds size (xs ++ ys) ≡ names rounds size xs ++ later)
unfolding origins
names-prefix rounds size xs ys =
    (_, ap (λ (r : Ran Origin). r.revealed) (run-append no_draw rounds (capacity size) drawn 1 xs ys (empty_memory no_draw)))

module _ {s : Structure} {rounds : ℕ} (size : ℕ) {Inv : Memory Origin → Type 0}
    (keeps : Keeps s no_draw rounds (capacity size) Inv) (inv : Inv (empty_memory no_draw)) where
  -- No draw is named twice.
  pub names-once : (ops : List (Op s)) → Distinct (names rounds size ops)
  unfolding origins
  names-once ops =
      distinct-left (names rounds size ops) (tags_of s (origins rounds size ops).memory)
      (names-distinct keeps 1 ops (empty_memory no_draw) inv (rw (tags-empty s no_draw) tt) (rw (tags-empty s no_draw) (all_nil (λ o. o.call < 1))))

  -- Each name is a draw of a call of the list.
  pub names-on-tapes : (ops : List (Op s)) → All (OnTape (2 * rounds + spare s) 1 (length ops)) (names rounds size ops)
  unfolding origins
  names-on-tapes ops o i =
      ⊎_elim {A = Memᴰ o []} {B = OnTape (2 * rounds + spare s) 1 (length ops) o} (λ k. absurd (Memᴰ.not-nil k)) (λ k. k)
      (rw (tags-empty s no_draw) at (names-from keeps 1 ops (empty_memory no_draw) inv o (Memᴰ.append_left _ i)))

  -- A name at a place of the call after the first k is a draw of that call or of an earlier one.
  pub name-at : (ops : List (Op s)) (k j : ℕ) → k < length ops → j < 2 * rounds
      → OnTape (2 * rounds + spare s) 1 (suc k) (get_or (names rounds size ops) (k * (2 * rounds) + j) no_draw)
  name-at ops k j before place =
      let first = take (suc k) ops in
      let split = names-prefix rounds size first (drop (suc k) ops) in
      let few : length first ≡ suc k = length-take (suc k) ops ∙ omega arith in
      let places : length (names rounds size first) ≡ suc k * (2 * rounds) = names-count rounds size first ∙ ap (λ (n : ℕ). n * (2 * rounds)) few in
      let inside : k * (2 * rounds) + j < length (names rounds size first) = omega arith in
      let same : names rounds size ops ≡ names rounds size first ++ split.0 =
      ap (names rounds size) (sym (take-append-drop (suc k) ops)) ∙ split.1 in
      let found = all_get_d (names rounds size first) (names-on-tapes first) (k * (2 * rounds) + j) no_draw inside in
      rw (same, get_or-append (names rounds size first) split.0 no_draw (k * (2 * rounds) + j) inside)
      (found.0, omega arith, found.2)
