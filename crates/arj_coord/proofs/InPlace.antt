-- What a root has is changed in its place.
use Rattle.std.proofs.Common.{◌≡◌, ℕ, List, ap, sym, ◌∙◌, Option, Some, None}
use Rattle.std.specs.BTreeMap.{is_at}
use Rattle.std.specs.List.Sorted.{IsStrictlySortedBy}
use Rattle.std.specs.Map.{keys_of, set_value}
use Rattle.std.specs.Ordering.{nat_cmp}
use Rattle.std.specs.Prelude.{Bool, IfSome, unwrap_or}
use Rattle.arj_coord.specs.declared.coord.Coord.TheInside.{Inside}
use Rattle.arj_protocol.specs.Ask.{Reply}
use Rattle.arj_protocol.specs.Asking.{root_moved}
use Rattle.arj_protocol.specs.Call.{Steps, answered}
use Rattle.arj_protocol.specs.Coord.{Coord, Root, keeping_of, no_root, on_root, root_at}
use Rattle.arj_protocol.specs.Order.{at_number, put_number}
use Rattle.arj_protocol.specs.Tree.{root_of}
use Rattle.arj_protocol.specs.Words.{Uid}
use Rattle.arj_root.proofs.Maps.{put_back}

-- what the coordinator's maps have
abbrev pub shown : Inside → Coord
shown c = record { tree = c.tree; labels = c.labels.entries; doings = c.doings; roots = c.roots.entries; telling = c.telling }

-- what was found is what the root has
pub found_there : (root u : Uid) (c d : Coord) (r : Root) → u ≡ root → d ≡ c → at_number u.num d.roots ≡ Some r → r ≡ root_at root c
found_there root u c d r same kept at = ap (λ (o : Option Root). unwrap_or o no_root) (sym at) ∙ (λ i. root_at (same i) (kept i))

-- a root of which nothing was noted has nothing
pub none_there : (root u : Uid) (c d : Coord) (r : Root) → u ≡ root → d ≡ c → at_number u.num d.roots ≡ None → r ≡ no_root →
    r ≡ root_at root c
none_there root u c d r same kept none fresh =
    fresh ∙ ap (λ (o : Option Root). unwrap_or o no_root) (sym none) ∙ (λ i. root_at (same i) (kept i))

-- what a root has was changed in its place
pub changed_there : (root u : Uid) (f : Root → Root) (c d : Coord) (r w : Root) (es : List (ℕ × Root)) → u ≡ root → d ≡ c →
    at_number u.num d.roots ≡ Some r
    → IsStrictlySortedBy nat_cmp (keys_of d.roots) → es ≡ set_value (is_at (nat_cmp u.num)) d.roots w → w ≡ f r →
    record d { roots = es } ≡ on_root root f c
changed_there root u f c d r w es same kept at sorted written is =
    ap (λ (m : List (ℕ × Root)). record d { roots = m })
    (put_back u.num d.roots es r w (f (root_at u d)) at sorted written (is ∙ ap f (ap (λ (o : Option Root). unwrap_or o no_root) (sym at))))
    ∙ (λ i. on_root (same i) f (kept i))

-- the first of what a root has was put
pub added_there : (root u : Uid) (f : Root → Root) (c d n : Coord) (r w : Root) (es : List (ℕ × Root)) → u ≡ root → d ≡ c →
    at_number u.num d.roots ≡ None
    → es ≡ d.roots → r ≡ no_root → w ≡ f r → n ≡ on_root u (λ _. w) (record d { roots = es }) → n ≡ on_root root f c
added_there root u f c d n r w es same kept none left fresh is put =
    put ∙ ap (λ (m : List (ℕ × Root)). on_root u (λ _. w) (record d { roots = m })) left
    ∙ ap (λ (x : Root). record d {
      roots =
          put_number u.num x d.roots;
    }) (is ∙ ap f (fresh ∙ ap (λ (o : Option Root). unwrap_or o no_root) (sym none)))
    ∙ (λ i. on_root (same i) f (kept i))

-- ---- an answer

-- it was taken up in the root's place
pub answered_there : (s : Steps) (free : Bool) (o : Option Reply) (u : Uid) (c d : Coord) (r w : Root) (es : List (ℕ × Root)) →
    u ≡ root_of s.path → d ≡ c
    → at_number u.num d.roots ≡ Some r → IsStrictlySortedBy nat_cmp (keys_of d.roots) → es ≡ set_value (is_at (nat_cmp u.num)) d.roots w
    → IfSome o (λ a. w ≡ root_moved s a (answered free ((keeping_of s.x r).kept) s.goal s.at a) r)
    → IfSome o (λ a. record d {
      roots =
          es;
    } ≡ on_root (root_of s.path) (root_moved s a (answered free ((keeping_of s.x (root_at (root_of s.path) c)).kept) s.goal s.at a)) c)
answered_there s free None u c d r w es same kept at sorted written moved = tt
answered_there s free (Some a) u c d r w es same kept at sorted written moved =
    let is : r ≡ root_at (root_of s.path) c = found_there (root_of s.path) u c d r same kept at in
    changed_there (root_of s.path) u (root_moved s a (answered free ((keeping_of s.x (root_at (root_of s.path) c)).kept) s.goal s.at a)) c d r w es same kept at sorted written
    (moved ∙ ap (λ (t : Root). root_moved s a (answered free ((keeping_of s.x t).kept) s.goal s.at a) r) is)

-- or by a root of which nothing was noted
pub answered_first : (s : Steps) (free : Bool) (o : Option Reply) (u : Uid) (c d n : Coord) (r w : Root) (es : List (ℕ × Root)) →
    u ≡ root_of s.path → d ≡ c
    → at_number u.num d.roots ≡ None → es ≡ d.roots → r ≡ no_root
    → IfSome o (λ a. w ≡ root_moved s a (answered free ((keeping_of s.x r).kept) s.goal s.at a) r) →
    n ≡ on_root u (λ _. w) (record d { roots = es })
    → IfSome o (λ a. n ≡ on_root (root_of s.path) (root_moved s a (answered free ((keeping_of s.x (root_at (root_of s.path) c)).kept) s.goal s.at a)) c)
answered_first s free None u c d n r w es same kept none left fresh moved put = tt
answered_first s free (Some a) u c d n r w es same kept none left fresh moved put =
    let is : r ≡ root_at (root_of s.path) c = none_there (root_of s.path) u c d r same kept none fresh in
    added_there (root_of s.path) u (root_moved s a (answered free ((keeping_of s.x (root_at (root_of s.path) c)).kept) s.goal s.at a)) c d n r w es same kept none left fresh
    (moved ∙ ap (λ (t : Root). root_moved s a (answered free ((keeping_of s.x t).kept) s.goal s.at a) r) is) put
