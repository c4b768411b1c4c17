-- The rotations, put together from their parts as the code computes them.
use Rattle.std.specs.Prelude.{◌≡◌, Bool, not, List, [], ◌++◌}
use Rattle.std.proofs.Math.Path.{refl}
use Rattle.std.proofs.Common.{ap}
use Rattle.std.proofs.Math.Bool.{true, false}
use Rattle.method_spec.specs.Node.{Link, Node, child, with_child, link_to}
use Rattle.std.proofs.Math.Option.{Option, none, some}
use Rattle.method_spec.specs.Map.{Sub, Built, Rotated, listed, rotate, seat, single, double}

module _ {T : Type 0} where
  pub rotate-is : (s : Bool) (n c : Node T) {inner new : Link T} {up down : Node T}
      → inner ≡ child (not s) c → down ≡ with_child s n inner → new ≡ link_to down → up ≡ with_child (not s) c new
      → ◌≡◌ {A = Rotated T} (record { up = up; down = down }) (rotate s n c)
  rotate-is s n c p q u v = cc

  pub single-is : (s : Bool) (n c : Node T) (outer : Option (Node T)) {r : Rotated T} {b : Sub T}
      → r ≡ rotate s n c → b ≡ seat s r.up outer (some r.down) → b ≡ (single s n c outer none []).sub
  unfolding single
  single-is s n c outer p q = cc

  -- The link that the first rotation gives the node on the tall side is gone after the second.
  pub double-as : (s : Bool) (n c g : Node T) (outer : Option (Node T)) (others : List (Node T))
      → double s n c g outer others
      ≡ record {
        sub =
            seat s (rotate s n (rotate (not s) c g).up).up (some (rotate (not s) c g).down)
            (some (rotate s n (rotate (not s) c g).up).down);
        out = listed outer ++ others;
      }
  unfolding double
  double-as true n c g outer others = refl
  double-as false n c g outer others = refl

  pub double-is : (s : Bool) (n c g : Node T) {r q : Rotated T} {b : Sub T}
      → r ≡ rotate (not s) c g → q ≡ rotate s n r.up → b ≡ seat s q.up (some r.down) (some q.down)
      → b ≡ (double s n c g none []).sub
  double-is s n c g p q u = let e = ap (λ (x : Built T). x.sub) (double-as s n c g none []) in cc
