-- `peak_lines::peak_line` meets its contract: its parts are put one after another, and there is room for each.
use Rattle.std.proofs.Common.{rules, arith, ap, ℕ, ◌≤◌, ◌<◌, ◌^◌, length}
use Rattle.walk_spec.specs.Lines.{ascii}
use Rattle.walk_spec.specs.PeakLines.{named, peak_line}
use Rattle.walk_laws.specs.LinesLaws.{put-length, put-whole}
use Rattle.peak_lines.specs.PeakLineLaws.{named-length, peak-line-put}
use Rattle.peak_lines.proofs.peak_line.Goals as goal

-- ---- how long the parts are
last-length : (n : ℕ) → n < 2 ^ 64 → length (named (ascii "last") n) ≤ 25
last-length n h = named-length (ascii "last") n h

largest-length : (n : ℕ) → n < 2 ^ 64 → length (named (ascii " largest") n) ≤ 29
largest-length n h = named-length (ascii " largest") n h

limit-length : length (named (ascii " limit") 64) ≤ 27
limit-length = named-length (ascii " limit") 64 (omega arith)

pub put_named-requires : goal.put_named-requires
put_named-requires c =
    let s = c.new-text.ensures.fresh in
    omega (arith, c.requires, s.1, ap length s.0, last-length c.args.last c.ranges.last.fits)

pub put_named-requires-2 : goal.put_named-requires-2
put_named-requires-2 c =
    let s = c.new-text.ensures.fresh in
    let p = c.put_named.ensures.put in
    omega (
      arith,
      c.requires,
      s.1,
      ap length s.0,
      p.ends,
      put-length p,
      last-length c.args.last c.ranges.last.fits,
      largest-length c.args.largest c.ranges.largest.fits,
    )

pub put_named-requires-3 : goal.put_named-requires-3
put_named-requires-3 c =
    let s = c.new-text.ensures.fresh in
    let p = c.put_named.ensures.put in
    let q = c.put_named-2.ensures.put in
    omega (
      arith,
      c.requires,
      s.1,
      ap length s.0,
      p.ends,
      q.ends,
      put-length p,
      put-length q,
      last-length c.args.last c.ranges.last.fits,
      largest-length c.args.largest c.ranges.largest.fits,
      limit-length,
    )

pub put-requires : goal.put-requires
put-requires c =
    let s = c.new-text.ensures.fresh in
    let p = c.put_named.ensures.put in
    let q = c.put_named-2.ensures.put in
    let r = c.put_named-3.ensures.put in
    omega (
      arith,
      c.requires,
      s.1,
      ap length s.0,
      p.ends,
      q.ends,
      r.ends,
      put-length p,
      put-length q,
      put-length r,
      last-length c.args.last c.ranges.last.fits,
      largest-length c.args.largest c.ranges.largest.fits,
      limit-length,
    )

pub returns : goal.returns
returns c =
    let a = c.args in
    let s = c.new-text.ensures.fresh in
    let p = c.put_named.ensures.put in
    let q = c.put_named-2.ensures.put in
    let r = c.put_named-3.ensures.put in
    let t = c.put.ensures.put in
    let line = peak-line-put a.last a.largest (rw (s.0, s.1) at p) q r t in
    let h : length (peak_line a.last a.largest) ≤ length a.out.now =
    omega (
      arith,
      c.requires,
      s.1,
      line.ends,
      t.ends,
      p.ends,
      q.ends,
      r.ends,
      last-length a.last c.ranges.last.fits,
      largest-length a.largest c.ranges.largest.fits,
      limit-length,
    ) in
    put-whole line h (search rules)
