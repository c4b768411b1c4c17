-- The link by default is the absent one.
use Rattle.std.specs.Prelude.{◌≡◌}
use Rattle.method_spec.specs.Node.{absent}
use Rattle.slot_spec.specs.declared.Link.{Link}
use Rattle.leaf_spec.specs.Convert.{to_link}

pub no-link : (l : Link) → (l.key ≡ 0) × ((l.tag ≡ 0) × (l.height ≡ 0)) → to_link l ≡ absent 0
no-link l h = rw (h.0, h.1.0, h.1.1)
