-- `walk_lines::put_line` meets its contract: word, value, leaves and newline are put one after another, and there is room for each.
use Rattle.std.proofs.Common.{rules, arith, List, [], ◌∷◌, ℕ, ◌≡◌, ◌+◌, ◌^◌, ◌<◌, ◌≤◌, ap, get_or, length}
use Rattle.walk_spec.specs.Lines.{numbers, longest_line, most_leaves, Put}
use Rattle.walk_laws.specs.LinesLaws.{line_with, value_room, leaves-room, line-put, put-length, put-whole}
use Rattle.walk_lines.proofs.put_line.Goals as goal

-- The word is put at the buffer's start.
started : {word shown b : List ℕ} {a : List ℕ} {at end : ℕ} → (shown ≡ a) × (at ≡ 0) → Put word at shown b end → Put word 0 a b end
started fresh p = rw (fresh.0, fresh.1) at p

pub put-requires : goal.put-requires
put-requires c = let s = c.new-text.ensures.fresh in omega (arith, c.requires, s.1, ap length s.0)

pub put_number-requires : goal.put_number-requires
put_number-requires c =
    let r = c.requires in
    value_room r.0 (started c.new-text.ensures.fresh c.put.ensures.put) r.1.1 c.args.shown (search rules)

pub put_leaves-requires : goal.put_leaves-requires
put_leaves-requires c =
    let r = c.requires in
    let w = started c.new-text.ensures.fresh c.put.ensures.put in
    omega (arith, leaves-room r.0 w r.1.1 c.args.shown (search rules) c.args.leaves.now c.put_number.ensures.put r.1.0 (λ i. search rules))

pub put-requires-2 : goal.put-requires-2
put-requires-2 c =
    let r = c.requires in
    let w = started c.new-text.ensures.fresh c.put.ensures.put in
    let l = c.put_leaves.ensures.put in
    omega (arith, leaves-room r.0 w r.1.1 c.args.shown (search rules) c.args.leaves.now c.put_number.ensures.put r.1.0 (λ i. search rules), l.ends, put-length l)

pub returns : goal.returns
returns c =
    let r = c.requires in
    let w = started c.new-text.ensures.fresh c.put.ensures.put in
    let v = c.put_number.ensures.put in
    let l = c.put_leaves.ensures.put in
    let t = c.put-2.ensures.put in
    let left = leaves-room r.0 w r.1.1 c.args.shown (search rules) c.args.leaves.now v r.1.0 (λ i. search rules) in
    let p = line-put c.args.word.now c.args.shown c.args.leaves.now w v l t in
    let h : length (line_with c.args.word.now c.args.shown c.args.leaves.now) ≤ length c.args.out.now =
    omega (arith, p.ends, put-length p, t.ends, put-length t, l.ends, put-length l, left) in
    put-whole p h (search rules)
