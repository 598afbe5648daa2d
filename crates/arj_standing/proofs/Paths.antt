-- Paths of actions that have begun, as they are kept.
use Rattle.std.specs.Prelude.{◌≡◌, ℕ, List, [], ◌∷◌, ◌++◌, map, Bool, true, false, Option, Some, None}
use Rattle.std.specs.Option.{option_map}
use Rattle.std.specs.Str.{bytes_eq}
use Rattle.std.proofs.Common.{refl, sym, ◌∙◌, ap, cond, arith, suc, get_or, take, length, ◌-◌}
use Rattle.arj_base.specs.declared.uid.Uid.{Uid}
use Rattle.arj_base.specs.Path.{before_last}
use Rattle.arj_base.specs.Rows.{front, last_uid}
use Rattle.arj_base.specs.Uid.{nobody, uid_eq}
use Rattle.arj_journal.specs.declared.body.Body.TheVariants as body
use Rattle.arj_journal.specs.declared.body.Kind.{Kind}
use Rattle.arj_journal.specs.declared.body.Kind.TheVariants as kind
use Rattle.arj_text.specs.declared.label.Label.{Label}
use Rattle.arj_text.specs.Label.{name}
use Rattle.arj_model.specs.Actions.{Act, acts_after, path, path_in, tops_in, uids, upwards}
use Rattle.arj_model.specs.Table.{path_by}
use Rattle.arj_standing.specs.Begun.{AreBegun, last_or, link, links, links_above, links_named, links_of, tops_of_links}
use Rattle.arj_standing.specs.declared.begun.Begun.{Begun}
use Rattle.arj_standing.specs.declared.begun.Link.{Link}
use Rattle.arj_start.specs.Kinds.{is_serial}

-- the links of one of two paths
links_if : (b : Bool) (p q : List Act) → cond b (links p) (links q) ≡ links (cond b p q)
links_if true p q = refl
links_if false p q = refl

-- the path of an action by its label
pub named : (us : List Act) (bs : List Begun) → AreBegun us bs → (l : List ℕ) → links_named l bs ≡ links (path us l)
named [] [] has l = refl
named [] (b ∷ bs) has l = absurd has
named (a ∷ us) [] has l = absurd has
named (a ∷ us) (b ∷ bs) has l =
    (λ i. cond (bytes_eq (has.0 i) l) (has.2 i) (named us bs has.4 l i)) ∙ links_if (bytes_eq a.label l) (path_in us a) (path us l)

-- the path of an action by its Uid
pub by_uid : (us : List Act) (bs : List Begun) → AreBegun us bs → (u : Uid) → links_of u bs ≡ links (path_by us u)
by_uid [] [] has u = refl
by_uid [] (b ∷ bs) has u = absurd has
by_uid (a ∷ us) [] has u = absurd has
by_uid (a ∷ us) (b ∷ bs) has u =
    (λ i. cond (uid_eq (has.1 i) u) (has.2 i) (by_uid us bs has.4 u i)) ∙ links_if (uid_eq a.uid u) (path_in us a) (path_by us u)

-- the path above an action
pub above : (us : List Act) (bs : List Begun) → AreBegun us bs → (k : Kind) (p : Option Label) →
    links_above k p bs ≡ links (upwards (option_map name p) k (path us))
above us bs has kind.Top None = refl
above us bs has kind.Nested None = refl
above us bs has kind.Independent None = refl
above us bs has kind.Serial None = refl
above us bs has kind.Constituent None = refl
above us bs has kind.Top (Some p) = named us bs has (name p)
above us bs has kind.Nested (Some p) = named us bs has (name p)
above us bs has kind.Independent (Some p) = refl
above us bs has kind.Serial (Some p) = named us bs has (name p)
above us bs has kind.Constituent (Some p) = named us bs has (name p)

-- the links of a path with one action more
links_more : (p : List Act) (a : Act) → links (p ++ a ∷ []) ≡ links p ++ link a ∷ []
links_more [] a = refl
links_more (b ∷ p) a = ap (λ rest. link b ∷ rest) (links_more p a)

-- the path of an action that begins
pub longer : (us : List Act) (bs : List Begun) → AreBegun us bs → (a : Act) (p : Option Label) → a.parent ≡ option_map name p
    → links_above a.kind p bs ++ link a ∷ [] ≡ links (path_in us a)
longer us bs has a p same =
    (λ i. above us bs has a.kind p i ++ link a ∷ []) ∙ (λ i. links (upwards (sym same i) a.kind (path us)) ++ link a ∷ []) ∙ sym (links_more (upwards a.parent a.kind (path us)) a)

-- the Uids of a path
pub uids_of_links : (p : List Act) → map (λ k. k.uid) (links p) ≡ uids p
uids_of_links [] = refl
uids_of_links (a ∷ p) = ap (λ rest. a.uid ∷ rest) (uids_of_links p)

-- how many of its leading actions end with its top
pub tops_of : (p : List Act) → tops_of_links (links p) ≡ tops_in p
tops_of [] = refl
tops_of (a ∷ []) = refl
tops_of (a ∷ b ∷ p) = refl

-- the Uid before the last is the last of the front
pub before_by_front : (p : List Uid) → before_last p ≡ last_or (front p)
before_by_front [] = refl
before_by_front (u ∷ []) = refl
before_by_front (u ∷ w ∷ []) = refl
before_by_front (u ∷ w ∷ v ∷ us) = before_by_front (w ∷ v ∷ us)

-- of a list that isn't empty, the place of the last item is one more than that of the rest
one_less : (n : ℕ) → suc (suc n) - 1 ≡ suc (suc n - 1)
one_less n = omega arith

-- the last Uid is the one at the last place
pub last_by_index : (p : List Uid) → get_or p (length p - 1) nobody ≡ last_uid p
last_by_index [] = refl
last_by_index (u ∷ []) = refl
last_by_index (u ∷ w ∷ us) = ap (λ n. get_or (u ∷ w ∷ us) n nobody) (one_less (length us)) ∙ last_by_index (w ∷ us)

-- the front is all but the last item
pub front_by_take : (p : List Uid) → take (length p - 1) p ≡ front p
front_by_take [] = refl
front_by_take (u ∷ []) = refl
front_by_take (u ∷ w ∷ us) = ap (λ n. take n (u ∷ w ∷ us)) (one_less (length us)) ∙ ap (λ xs. u ∷ xs) (front_by_take (w ∷ us))

-- as many are kept as have begun
pub as_many : (us : List Act) (bs : List Begun) → AreBegun us bs → length bs ≡ length us
as_many [] [] has = refl
as_many [] (b ∷ bs) has = absurd has
as_many (a ∷ us) [] has = absurd has
as_many (a ∷ us) (b ∷ bs) has = ap suc (as_many us bs has.4)

-- an action more has begun
pub one_more : (us : List Act) (bs : List Begun) → AreBegun us bs → (n : ℕ) → n ≡ length bs →
    (l : Label) (k : Kind) (u : Uid) (p : Option Label) (q : List Link)
    → q ≡ links_above k p bs ++ record { id = n; uid = u; serial = is_serial k } ∷ []
    → AreBegun (acts_after us (body.Began l k u p)) (record { id = n; label = l; uid = u; path = q } ∷ bs)
one_more us bs has n e l k u p q same =
    let many : n ≡ length us = e ∙ as_many us bs has in (
      refl,
      refl,
      same ∙ (λ i. links_above k p bs ++ record { id = many i; uid = u; serial = is_serial k } ∷ []) ∙ longer us bs has (record {
        id =
            length us;
        label = name l;
        kind = k;
        uid = u;
        parent = option_map name p;
      }) p refl,
      many,
      has,
    )
