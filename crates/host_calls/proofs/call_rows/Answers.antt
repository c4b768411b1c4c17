-- `host_calls::call_rows` meets its contract: what the core does with the cut tape and a trace of its own, the call does with the lent ones.
use mathlib.Core.Path.{◌≡◌, refl, sym, ◌∙◌, ap, ap₂, subst}
use mathlib.Core.List.{List, ◌++◌}
use Prim.Native.Nat.{ℕ, min, ◌*◌, ◌/◌, ◌≤◌}
use lib.ListN.{length, take, drop}
use lib.Seq.{length-take-le, length-sets}
use Rattle.state_spec.specs.Fetching.{rounds_of, draws_of}
use Rattle.lent_bytes_spec.specs.Numbers.{numbers_in, numbers_of, numbers_bytes}
use Rattle.lent_bytes_laws.specs.NumbersLaws.{numbers-length, numbers-left}
use Rattle.fitness.specs.declared.Head.{Head}
use Rattle.std.specs.Prelude.{Result, Ok, Err, IsErr, IsErrAnd}
use Rattle.call_spec.specs.declared.Refusal.{Refusal}
use Rattle.call_core.specs.Run.{CallsAs}
use Rattle.call_ending.specs.declared.Ran.{Ran}
use Rattle.host_calls.specs.Left.{Rows}
use Rattle.host_calls.specs.LeftLaws.{numbers-cut, take-low, refused-lent, shown-within, made-lent}
use native.Mathlib.Omega.{arith}
use borrow.Author.Rules.{rules}
use Rattle.host_calls.proofs.call_rows.Goals as goal

-- What the core was handed and left.
module _ {head : Head} {w tape trace numbers leaves : List ℕ} {rounds draws : ℕ} (h : Rows head w tape trace numbers leaves rounds draws) where
  most : ℕ
  most = draws_of head.structure head.size

  own-sized : length leaves ≡ min (length (numbers_of trace)) (2 * rounds_of head.structure head.size)
  own-sized =
      h.places ∙ ap₂ (λ (n m : ℕ). min n (2 * m)) (sym (numbers-length (length trace / 2) trace)) h.rounds-are

  module _ {tree ticket read w' tree' own : List ℕ} {x : Result Ran Refusal} (e : read ≡ numbers_in (length numbers) tape)
      (called-so : CallsAs head w tree ticket read leaves w' tree' own x) where
    cut : CallsAs head w tree ticket (take (draws_of head.structure head.size) (numbers_of tape)) leaves w' tree' own x
    cut =
        subst (λ (t : List ℕ). CallsAs head w tree ticket t leaves w' tree' own x)
        (e ∙ ap (λ (m : ℕ). numbers_in m tape) (h.taken ∙ ap (min (length tape / 2)) h.draws-are)
        ∙ numbers-cut tape (draws_of head.structure head.size))
        called-so

    refused : {n : Refusal} → x ≡ Err n → CallsAs head w tree ticket (numbers_of tape) (numbers_of trace) w' tree' (numbers_of trace) (Err n)
    refused is = refused-lent leaves (numbers_of tape) trace own-sized (rw is at cut)

    module _ {r : Ran} (is : x ≡ Ok r) where
      made : CallsAs head w tree ticket (take (draws_of head.structure head.size) (numbers_of tape)) leaves w' tree' own (Ok r)
      made = rw is at cut

      shown : length own ≡ length leaves → r.leaves ≤ length own
      shown same = omega (arith, shown-within leaves (numbers_of tape) trace own-sized h.stands made same, same)

      lent : (trace' : List ℕ) → length own ≡ length leaves
          → numbers_of trace' ≡ take r.leaves own ++ drop r.leaves (numbers_of trace)
          → CallsAs head w tree ticket (numbers_of tape) (numbers_of trace) w' tree' (numbers_of trace') (Ok r)
      lent trace' same left = made-lent leaves (numbers_of tape) trace own-sized h.stands made same trace' left

as-err : {n : Refusal} (x : Result Ran Refusal) → IsErr x → IsErrAnd x (λ (e : Refusal). e ≡ n) → x ≡ Err n
as-err (Ok r) none same = let z : ◌≡◌ {A = ℕ} 0 1 = cc in absurd (omega (arith, z))
as-err (Err e) some same = ap Err same

pub returns-in_err-r : goal.returns-in_err-r
returns-in_err-r c =
    let same : c.from_residual.result ≡ Err c.in_err-r.field-0.0 = as-err c.from_residual.result c.from_residual.ensures.0 c.from_residual.ensures.1 in
    (rw same (refused c.requires c.read_numbers.ensures c.call_row.ensures c.in_err-r.was), refl)

pub slice_bounds-write_numbers-end : goal.slice_bounds-write_numbers-end
slice_bounds-write_numbers-end c = shown c.requires c.read_numbers.ensures c.call_row.ensures c.in_ok-r.was (search rules)

pub slice_bounds-write_numbers-end-2 : goal.slice_bounds-write_numbers-end-2
slice_bounds-write_numbers-end-2 c =
    sym (length-take-le c.in_ok-r.r.leaves c.call_row.new.trace
    (shown c.requires c.read_numbers.ensures c.call_row.ensures c.in_ok-r.was (search rules)))

pub returns : goal.returns
returns c =
    let a = c.args in
    let own : List ℕ = c.call_row.new.trace in
    let same : length own ≡ length a.leaves.now = search rules in
    let n : ℕ = c.in_ok-r.r.leaves in
    let few : n ≤ length own = shown c.requires c.read_numbers.ensures c.call_row.ensures c.in_ok-r.was same in
    let ns : List ℕ = take n own in
    let many : length ns ≡ n = length-take-le n own few in
    let w = c.write_numbers in
    let left : numbers_of w.new.bytes ≡ ns ++ drop n (numbers_of a.trace.now) =
    ap numbers_of w.ensures
    ∙ numbers-left a.trace.now ns (omega (arith, many, few, same, c.requires.places))
    (take-low n own (λ i. search rules))
    ∙ ap (λ (m : ℕ). ns ++ drop m (numbers_of a.trace.now)) many in (
      lent c.requires c.read_numbers.ensures c.call_row.ensures c.in_ok-r.was w.new.bytes same left,
      ap length w.ensures ∙ length-sets a.trace.now 0 (numbers_bytes ns),
    )
