-- What changes an action at work twice changes it at once.
use Rattle.std.proofs.Common.{◌≡◌, ℕ, zero, suc, List, [], ◌∷◌, Bool, true, false, refl, ap, Option, Some, None}
use Rattle.std.specs.Prelude.{slice_get, slice_set}
use Rattle.arj_protocol.specs.Coord.{Coord, Doing, on_doing, change_doing}
use Rattle.arj_protocol.specs.Tree.{at_place, is_own}
use Rattle.arj_protocol.specs.Words.{Uid}

-- an item that is set in the place of another one
set_twice : (k : ℕ) (v w : Doing) (ds : List Doing) → slice_set (slice_set ds k w) k v ≡ slice_set ds k v
set_twice k v w [] = refl
set_twice zero v w (d ∷ ds) = refl
set_twice (suc k) v w (d ∷ ds) = ap (λ es. d ∷ es) (set_twice k v w ds)

get_set : (k : ℕ) (w d : Doing) (ds : List Doing) → slice_get ds k ≡ Some d → slice_get (slice_set ds k w) k ≡ Some w
get_set k w d [] at = absurd (cc at)
get_set zero w d (e ∷ ds) at = refl
get_set (suc k) w d (e ∷ ds) at = get_set k w d ds at

pub doings_at_once : (u : Uid) (f g : Doing → Doing) (c : Coord) → on_doing u f (on_doing u g c) ≡ on_doing u (λ d. f (g d)) c
doings_at_once u f g c = by (is_own u c.tree) refl
  where
    here : (k : ℕ) (o : Option Doing) → at_place k c.doings ≡ o → u.num ≡ k → is_own u c.tree ≡ true →
        on_doing u f (change_doing g u c o) ≡ change_doing (λ d. f (g d)) u c o
    here k None at num own = rw (own, num, at) refl
    here zero (Some d) at num own = absurd (cc at)
    here (suc k) (Some d) at num own =
        rw (own, num, get_set k (g d) d c.doings at) (ap (λ ds. record c { doings = ds }) (set_twice k (f (g d)) (g d) c.doings))

    by : (t : Bool) → is_own u c.tree ≡ t → on_doing u f (on_doing u g c) ≡ on_doing u (λ d. f (g d)) c
    by true own = rw own (here u.num (at_place u.num c.doings) refl refl own)
    by false own = rw own (rw own refl)
