-- What owning a struct tells of its fields, as the laws of the format ask it.
use Rattle.std.proofs.Common.{arith, Fits}
use Rattle.std.specs.Int.{w8, w16, w32, w64}
use Rattle.slot_spec.specs.Layout.{Fit}
use Rattle.slot_spec.specs.Slot.{fields_of, Ranged}
use Rattle.slot_laws.specs.SlotLaws.{Words}
use Rattle.slot_spec.specs.declared.Link.{Link}
use Rattle.slot_spec.specs.declared.Node.{Node}
use Rattle.slot_spec.specs.declared.Slot.{Slot}

pub slot-ranges : (x : Slot) → Fits w64 x.a × (Fits w64 x.b × (Fits w64 x.c × (Fits w64 x.d × Unit {0}))) → Words x
slot-ranges x g = (g.0.fits, g.1.0.fits, g.1.1.0.fits, g.1.1.1.0.fits)

abbrev pub LinkRanges : Link → Type 0
LinkRanges l = Fits w32 l.key × (Fits w16 l.tag × (Fits w8 l.height × Unit {0}))

abbrev pub NodeRanges : Node → Type 0
NodeRanges n = Fits w64 n.value × (Fits w32 n.key × (Fits w16 n.tag × (LinkRanges n.left × (LinkRanges n.right × Unit {0}))))

pub node-ranges : (n : Node) → NodeRanges n → Ranged n
unfolding Ranged Fit fields_of
node-ranges n g =
    let l = g.1.1.1.0 in
    let r = g.1.1.1.1.0 in (
      omega arith,
      (
        l.1.1.0.fits,
        (
          r.1.1.0.fits,
          (
            omega arith,
            (
              g.1.0.fits,
              (
                l.0.fits,
                (
                  r.0.fits,
                  (
                    g.1.1.0.fits,
                    (
                      l.1.0.fits,
                      (r.1.0.fits, (omega arith, (g.0.fits, tt))),
                    ),
                  ),
                ),
              ),
            ),
          ),
        ),
      ),
    )
