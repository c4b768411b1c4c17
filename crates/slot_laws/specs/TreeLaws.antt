-- Paths: a bucket's number is on a path exactly where halving reaches it, and the numbers on a path fall.
use Rattle.std.specs.Prelude.{◌≡◌, refl, Bool, true, false, ◌||◌, ℕ, zero, suc, ◌+◌, ◌*◌, ◌/◌, ◌%◌, ◌^◌, ◌≤◌, ◌<◌, eqb, length, get_or}
use Rattle.std.proofs.Common.{sym, ◌∙◌, ap, le_refl, le_trans, div-le_self, div-one, pow-suc, mul_comm, arith, eq-eqb, ne_eqb, eqb-true, pow_pos, pow_mono, shl_exact}
use Rattle.std.proofs.Math.Bool.{or-false, or-true}
use Rattle.std.proofs.Math.Nat.{div-div-eq-div-mul}
use mathlib.Core.List.{List, [], ◌∷◌, Memᴰ}
use Rattle.slot_spec.specs.Tree.{halvings, halved, among}

-- The number of leaves, as a shift gives it.
pub power-range : (k : ℕ) → k ≤ 17 → (1 ≤ 2 ^ k) × (2 ^ k ≤ 2 ^ 17)
power-range k h = (pow_pos k, pow_mono h)

pub shifted_one : (k : ℕ) → k ≤ 17 → (1 * 2 ^ k) % 2 ^ 64 ≡ 2 ^ k
shifted_one k h = shl_exact {a = 1} 1 k 64 (omega arith) (omega arith) ∙ omega arith

-- ---- halving
pub halved_none : (b : ℕ) → halved 0 b ≡ b
unfolding halved
halved_none b = refl

pub halved-more : (n b : ℕ) → halved (suc n) b ≡ halved n (b / 2)
unfolding halved
halved-more n b = refl

pub halved-last : (n b : ℕ) → halved (suc n) b ≡ halved n b / 2
unfolding halved
halved-last zero b = refl
halved-last (suc n) b = halved-last n (b / 2)

pub halved-le : (n b : ℕ) → halved n b ≤ b
unfolding halved
halved-le zero b = le_refl b
halved-le (suc n) b = le_trans (halved-le n (b / 2)) (div-le_self b 2)

pub halvings-length : (n b : ℕ) → length (halvings n b) ≡ suc n
unfolding halvings
halvings-length zero b = refl
halvings-length (suc n) b = ap suc (halvings-length n (b / 2))

-- Halving i times is one shift.
pub halved-shift : (i b : ℕ) → halved i b ≡ b / 2 ^ i
unfolding halved
halved-shift zero b = sym (div-one b)
halved-shift (suc i) b = halved-shift i (b / 2) ∙ div-div-eq-div-mul b 2 (2 ^ i) ∙ rw (pow-suc 2 i, mul_comm (2 ^ i) 2)

-- The path's list and its bucket at each level say the same.
pub halvings-at : (n b i : ℕ) → i ≤ n → get_or (halvings n b) i 0 ≡ halved i b
unfolding halvings halved
halvings-at zero b zero h = refl
halvings-at zero b (suc i) h = let z : ⊥ = omega arith in absurd z
halvings-at (suc n) b zero h = refl
halvings-at (suc n) b (suc i) h = halvings-at n (b / 2) i (omega arith)

-- ---- the test
pub among-less : (n b c : ℕ) → b < c → among c (halvings n b) ≡ false
unfolding halvings among
among-less zero b c h = rw (ne_eqb c b (λ e. omega arith))
among-less (suc n) b c h = rw (ne_eqb c b (λ e. omega arith), among-less n (b / 2) c (omega arith))

among-last : (b c : ℕ) → among c (halvings 0 b) ≡ eqb c b
unfolding halvings among
among-last b c = or-false (eqb c b)

among-above : (n b c : ℕ) → c < b → among c (halvings (suc n) b) ≡ among c (halvings n (b / 2))
unfolding halvings among
among-above n b c h = rw (ne_eqb c b (λ e. omega arith))

-- The test says exactly that the bucket is in the list.
pub among-member : (b : ℕ) (bs : List ℕ) → among b bs ≡ true → Memᴰ b bs
unfolding among
among-member b [] h = let z : ◌≡◌ {A = ℕ} 0 1 = cc in absurd (omega arith)
among-member b (c ∷ bs) h = go (among-member b bs) (eqb b c) refl h
  where
    go : (among b bs ≡ true → Memᴰ b bs) → (t : Bool) → eqb b c ≡ t → (t || among b bs) ≡ true → Memᴰ b (c ∷ bs)
    go more true e g = Memᴰ.head (eqb-true b c e)
    go more false e g = Memᴰ.tail (more g)

pub member-among : (b : ℕ) (bs : List ℕ) → Memᴰ b bs → among b bs ≡ true
unfolding among
member-among b bs (Memᴰ.head {x = c} {xs = cs} e) = rw (eq-eqb b c e)
member-among b bs (Memᴰ.tail {x = c} {xs = cs} m) = rw (member-among b cs m) (or-true (eqb b c))

-- ---- the test by lengths: halving takes one digit, so only one number of the path has as many as a given one
-- A number not below the second of the path is on it only as its first.
among_first : (n x b : ℕ) → x / 2 < b → among b (halvings (suc n) x) ≡ eqb b x
unfolding halvings among
among_first n x b h = rw (among-less n (x / 2) b h) (or-false (eqb b x))

-- Of a number with i digits more than another, halving i times comes to what stands there, and nothing else of its length does.
pub among-level : (i j n x b : ℕ) → i ≤ n → 2 ^ (i + j) ≤ x → x < 2 * 2 ^ (i + j) → 2 ^ j ≤ b → b < 2 * 2 ^ j → among b (halvings n x) ≡ eqb b (halved i x)
unfolding halved
among-level zero j zero x b l p q r s = among-last x b
among-level zero j (suc n) x b l p q r s =
    let e : 2 ^ (0 + j) ≡ 2 ^ j = ap (λ (m : ℕ). 2 ^ m) (omega arith) in
    among_first n x b (omega arith)
among-level (suc i) j zero x b l p q r s = let z : ⊥ = omega arith in absurd z
among-level (suc i) j (suc n) x b l p q r s =
    let e : 2 ^ (suc i + j) ≡ 2 ^ suc (i + j) = ap (λ (m : ℕ). 2 ^ m) (omega arith) in
    let d : 2 ^ suc (i + j) ≡ 2 * 2 ^ (i + j) = omega arith in
    let m : 2 ^ j ≤ 2 ^ (i + j) = pow_mono {i = j} {j = i + j} (omega arith) in
    among-above n x b (omega arith) ∙ among-level i j n (x / 2) b (omega arith) (omega arith) (omega arith) r s

-- Halving so often never comes to 0.
pub among-zero : (n x : ℕ) → 2 ^ n ≤ x → among 0 (halvings n x) ≡ false
unfolding halvings among
among-zero zero x h = rw (ne_eqb 0 x (λ e. omega arith))
among-zero (suc n) x h =
    let p : 2 ^ suc n ≤ x = h in
    let o = pow_pos n in
    rw (ne_eqb 0 x (λ e. omega arith), among-zero n (x / 2) (omega arith))
