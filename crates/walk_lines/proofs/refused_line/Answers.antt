-- `walk_lines::refused_line` meets its contract: it is the line of a refusal's word and number.
use Rattle.std.proofs.Common.{◌≡◌, ◌++◌, ◌∙◌, ap, [], List, ℕ, length, drop, subst}
use Rattle.walk_spec.specs.Lines.{ascii}
use Rattle.walk_laws.specs.LinesLaws.{line_with, refused-is}
use Rattle.walk_lines.proofs.refused_line.Goals as goal

pub returns-clause-value : goal.returns-clause-value
returns-clause-value c =
    let p = c.put_line in
    subst (λ (xs : List ℕ). (p.result ≡ length xs) × (p.new.out ≡ xs ++ drop p.result c.args.out.now))
    (ap (λ (n : ℕ). line_with (ascii "refused") n []) c.from.ensures ∙ refused-is c.args.number) p.ensures.value
