-- The lengths of a record's parts that the contracts speak of.
use Rattle.std.specs.Prelude.{ℕ}

-- The most bytes of an output buffer.
abbrev pub most_bytes : ℕ
most_bytes = 65536
