-- A call under way is by a path that its root begins, and on which each action stands once.
use Rattle.arj_law_parts.proofs.Words
use Words.{◌≡◌, ◌≤◌, ◌++◌, Bool, true, false, cond, List, [], ◌∷◌, length, refl, sym, ◌∙◌, ap, subst, inl, inr, ⊎_elim, arith, or_parts}
use Words.{uid_is, uid_same, In, in_from, Kind, Path, Uid, first_uid, is_on, uid_eq, uids_of, Coord, Branch, behind, is_own, root_of}
use Words.kind
use Rattle.arj_law_disk_view.proofs.Terms
use Terms.{Action, AreBegun, Stands, act_of, action_of, paths_of, IsBusy, IsGoodCoord, begun_tree, on_more, path_some, root_own, never}
use Terms.{IsFromRoot, AreOnPaths}
use Rattle.arj_base.proofs.Uids.{uid_sym}
use Rattle.arj_law_parts.specs.parts.Actions.{IsNew}

off_more : (us : List Uid) (u w : Uid) → is_on us w ≡ false → uid_eq u w ≡ false → is_on (us ++ u ∷ []) w ≡ false
off_more us u w off other = by (is_on (us ++ u ∷ []) w) refl
  where
    by : (b : Bool) → is_on (us ++ u ∷ []) w ≡ b → is_on (us ++ u ∷ []) w ≡ false
    by false is = is
    by true is =
        ⊎_elim (λ old. absurd (never old off)) (λ same. absurd (never (ap (λ z. uid_eq z w) same ∙ uid_same w) other)) (on_more us u w is)

-- one more, which isn't on the path yet
once_more : (us : List Uid) (u w : Uid) → is_on us u ≡ false → is_on (behind w us) w ≡ false → is_on (behind w (us ++ u ∷ [])) w ≡ false
once_more [] u w off once = by (uid_eq u w)
  where
    by : (b : Bool) → is_on (cond b [] []) w ≡ false
    by true = refl
    by false = refl
once_more (v ∷ us) u w off once = let p = or_parts (uid_eq v u) (is_on us u) off in by (uid_eq v w) refl p.0 once (once_more us u w p.1)
  where
    by : (b : Bool) → uid_eq v w ≡ b → uid_eq v u ≡ false → is_on (cond b us (behind w us)) w ≡ false → (is_on (behind w us) w ≡ false →
        is_on (behind w (us ++ u ∷ [])) w ≡ false) → is_on (cond b (us ++ u ∷ []) (behind w (us ++ u ∷ []))) w ≡ false
    by true same other h ih = off_more us u w h (uid_sym u w ∙ ap (λ z. uid_eq z u) (sym (uid_is v w same)) ∙ other)
    by false is other h ih = ih h

-- an action's path has each Uid once
once_in : (acts : List Action) → AreBegun acts → (a : Action) → In a acts → (w : Uid) → is_on (behind w (uids_of a.path)) w ≡ false
once_in [] begun a i w = absurd i
once_in (c ∷ acts) begun a (inr old) w = once_in acts begun.1 a old w
once_in (c ∷ acts) begun a (inl same) w =
    subst (λ (x : Action). is_on (behind w (uids_of x.path)) w ≡ false) same (by c.kind begun.0.stands (λ b i. once_in acts begun.1 b i w))
  where
    new : IsNew (act_of c) acts
    new = begun.0.new

    alone : uids_of c.path ≡ act_of c ∷ [] → is_on (behind w (uids_of c.path)) w ≡ false
    alone is = ap (λ us. is_on (behind w us) w) is ∙ once_more [] (act_of c) w refl refl

    below : (b : Action) → is_on (uids_of b.path) (act_of c) ≡ false → uids_of c.path ≡ uids_of b.path ++ act_of c ∷ [] →
        is_on (behind w (uids_of b.path)) w ≡ false → is_on (behind w (uids_of c.path)) w ≡ false
    below b off is once = ap (λ us. is_on (behind w us) w) is ∙ once_more (uids_of b.path) (act_of c) w off once

    by : (k : Kind) → Stands acts c k → ((b : Action) → In b acts → is_on (behind w (uids_of b.path)) w ≡ false) →
        is_on (behind w (uids_of c.path)) w ≡ false
    by kind.Top s ih = alone s.0
    by kind.Independent s ih = alone s.0
    by kind.Serial s ih = alone s.0
    by kind.Nested s ih = below s.0 (new s.0 s.1) s.3 (ih s.0 (in_from s.0 acts s.1))
    by kind.Constituent s ih = below s.0 (new s.0 s.1) s.3 (ih s.0 (in_from s.0 acts s.1))

-- the path of an action is of its root
from_root : (acts : List Action) → AreBegun acts → (a : Action) → In a acts → IsFromRoot (root_of a.path) (uids_of a.path)
from_root acts begun a i = let h = headed (uids_of a.path) (path_some a.path) in
    record { rest = h.0; headed = h.1; once = once_in acts begun a i }
  where
    headed : (us : List Uid) → 1 ≤ length us → (rest : List Uid) × (us ≡ first_uid us ∷ rest)
    headed [] some = absurd (omega (arith, some))
    headed (u ∷ us) some = (us, refl)

pub on_paths : (acts : List Action) → AreBegun acts → (c : Coord) → IsGoodCoord acts (paths_of acts) c → AreOnPaths c
on_paths acts begun c good u q s at now =
    let a = subst (IsBusy c.tree u) now (good.busy u q at) in
    let b : Branch = a.branch in
    record {
      root = root_of s.path;
      own = subst (λ p. own_at p) a.path (root_own acts (paths_of acts) (begun_tree acts begun) c good u b a.found);
      number = refl;
      from = subst (λ p. IsFromRoot (root_of p) (uids_of p)) a.path
          (from_root acts begun (action_of b) (in_from (action_of b) acts (good.known u b a.found)));
    }
  where
    own_at : Path → Type 0
    own_at p = is_own (root_of p) c.tree ≡ true
