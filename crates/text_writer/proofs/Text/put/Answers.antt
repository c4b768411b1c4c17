-- The part of the buffer from the text's end on gets the text.
use Rattle.std.proofs.Common.{◌≡◌, ◌+◌, ◌-◌, length, arith, drop-drop, append_assoc, refl}
use Rattle.std.proofs.lemmas.List.Edits.{sets-eq}
use Rattle.text_writer.proofs.Text.put.Goals as goal

pub returns-clause-put : goal.returns-clause-put
returns-clause-put c =
    let s = c.args.self.now in
    let k : s.end + length c.args.text.now - s.end ≡ length c.args.text.now = omega arith in
    record {
      stands = rw (k, c.copy_from_slice.ensures.after, sets-eq c.args.text.now s.out.now s.end c.requires, drop-drop (length c.args.text.now) s.end s.out.now, append_assoc) refl;
      ends = refl;
    }
