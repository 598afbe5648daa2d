-- Which objects a top's Confirm names.
use Rattle.arj_law_parts.proofs.Words
use Words.{◌≡◌, ◌≢◌, ◌∙◌, ◌++◌, ℕ, List, [], ◌∷◌, take, Some, refl, sym, ap, subst, inl, inr, in_from, Ask, Head, Kind, asks, last_uid}
use Words.{tops_of, uids_of, actor, top_of, Grants, Marks, Post, Seen}
use Words.list
use Words.ask
use Words.kind
use Rattle.arj_law_lock_view.proofs.Terms.{Action, AreBegun, Stands, act_of, FitsAsked, one_action, serial_alone, IsGoodOf, KnowsParted}
use Rattle.arj_law_parts.specs.moves.Seen.{In}

-- an action that is neither nested nor serializing is its own top
pub top_own : (acts : List Action) → AreBegun acts → (a : Action) → list.In a acts → a.kind ≢ kind.Nested → a.kind ≢ kind.Serial →
    top_of a.path ≡ act_of a
top_own [] begun a i unnested unserial = absurd i
top_own (c ∷ acts) begun a (inr i) unnested unserial = top_own acts begun.1 a i unnested unserial
top_own (c ∷ acts) begun a (inl is) unnested unserial =
    subst (λ (z : Action). top_of z.path ≡ act_of z) is (of c.kind refl (let new = begun.0 in new.stands))
  where
    alone : uids_of c.path ≡ act_of c ∷ [] → tops_of c.path ≡ 1 → top_of c.path ≡ act_of c
    alone path tops = (λ j. last_uid (take (tops j) (path j)))

    of : (k : Kind) → c.kind ≡ k → Stands acts c k → top_of c.path ≡ act_of c
    of kind.Top kind_is s = alone s.0 s.1
    of kind.Independent kind_is s = alone s.0 s.1
    of kind.Serial kind_is s = absurd (unserial (ap (λ (z : Action). z.kind) (sym is) ∙ kind_is))
    of kind.Nested kind_is s = absurd (unnested (ap (λ (z : Action). z.kind) (sym is) ∙ kind_is))
    of kind.Constituent kind_is s =
        let b : Action = s.0 in
        let up = serial_alone acts begun.1 b (in_from b acts s.1) s.2 in
        let path : uids_of c.path ≡ act_of b ∷ act_of c ∷ [] = s.3 ∙ ap (λ us. us ++ act_of c ∷ []) up.0 in
        (λ j. last_uid (take (s.4 j) (path j)))

-- ---- an answer for each top

-- what a Confirm names
abbrev pub grants_in : Ask → Grants
grants_in (ask.Confirm grants excluded included) = grants
grants_in _ = []

module _ (x : ℕ) (begun : List Action) (M : Seen) (good : IsGoodOf begun M) (knows : KnowsParted begun M) where
  -- who confirms is its own top
  pub own_top : (p : Post) (h : Head) (grants : Grants) (excluded included : Marks) → In p M.sent →
      asks p.message ≡ Some (h, ask.Confirm grants excluded included) → top_of h.path ≡ actor h.path
  own_top p h grants excluded included there is =
      let fit : FitsAsked begun p.message (Some (h, ask.Confirm grants excluded included)) = subst (FitsAsked begun p.message) is
      (good.fits p there) in
      let t = knows.tops p h (ask.Confirm grants excluded included) there is refl in
      let same : t.0 ≡ fit.0 = one_action begun good.begun t.0 fit.0 (in_from t.0 begun t.1) (in_from fit.0 begun fit.1)
      (t.2 ∙ ap actor (sym fit.2)) in
      ap top_of (sym fit.2) ∙ top_own begun good.begun fit.0 (in_from fit.0 begun fit.1)
      (λ nested. t.3 (ap (λ (z : Action). z.kind) same ∙ nested)) fit.3 ∙ ap actor fit.2
