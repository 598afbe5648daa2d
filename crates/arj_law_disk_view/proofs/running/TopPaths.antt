-- Requests are by paths of tops.
use Rattle.arj_law_parts.proofs.Words
use Words.{◌≡◌, ◌≢◌, ◌≤◌, ◌⊎◌, List, [], ◌∷◌, ◌++◌, length, take, true, false, Some, refl, sym, ◌∙◌, ap, subst, inl, inr, Contains, arith}
use Words.{uid_other, In, in_from, in_to, Uid, Ask, Kind, Message, Path, asks, first_uid, last_uid, tops_of, uid_eq, uids_of, top_path}
use Words.{uid_number}
use Words.kind
use Words.ask
use Rattle.arj_law_disk_view.proofs.Terms
use Terms.{Action, AreBegun, Stands, act_of, FitsAsked, IsAsker, path_length, serial_alone, never, IsOfKind, Kinds, Agrees, AreOfTops}
use Terms.{IsOfTops, is_top_kind}
use Rattle.arj_law_disk_view.proofs.running.{Begun.Stood, Begun.stood, Holders.taken_front}

-- the top of an action, which isn't serializing: its path leads the action's
abbrev pub HasTop : List Action → Action → Type 0
HasTop acts a = (c : Action) × In c acts × (is_top_kind c.kind ≡ true) × (top_path a.path ≡ uids_of c.path)

pub top_in : (acts : List Action) → AreBegun acts → (a : Action) → In a acts → a.kind ≢ kind.Serial → HasTop acts a
top_in [] begun a none plain = absurd none
top_in (b ∷ acts) begun a (inr old) plain = let r = top_in acts begun.1 a old plain in (r.0, inr r.1, r.2, r.3)
top_in (b ∷ acts) begun a (inl same) plain = subst (λ (x : Action). HasTop (b ∷ acts) x) same
    (by b.kind refl (λ is. plain (ap (λ (x : Action). x.kind) (sym same) ∙ is)) begun.0.stands (λ c i. top_in acts begun.1 c i))
  where
    by : (k : Kind) → b.kind ≡ k → (b.kind ≡ kind.Serial → ⊥) → Stands acts b k →
        ((c : Action) → In c acts → c.kind ≢ kind.Serial → HasTop acts c) → HasTop (b ∷ acts) b
    by kind.Top is no_serial s older = (b, inl refl, ap is_top_kind is, (λ j. take (s.1 j) (s.0 j)) ∙ sym s.0)
    by kind.Independent is no_serial s older = (b, inl refl, ap is_top_kind is, (λ j. take (s.1 j) (s.0 j)) ∙ sym s.0)
    by kind.Serial is no_serial s older = absurd (no_serial is)
    by kind.Nested is no_serial s older =
        let c : Action = s.0 in
        let inside : tops_of c.path ≤ length (uids_of c.path) = omega (arith, c.path.within, path_length c.path) in
        let r = older c (in_from c acts s.1) s.2 in
        (r.0, inr r.1, r.2, (λ j. take (s.4 j) (s.3 j)) ∙ taken_front (uids_of c.path) (act_of b) (tops_of c.path) inside ∙ r.3)
    by kind.Constituent is no_serial s older =
        let c : Action = s.0 in
        let up = serial_alone acts begun.1 c (in_from c acts s.1) s.2 in
        let uids : uids_of b.path ≡ act_of c ∷ act_of b ∷ [] = s.3 ∙ ap (λ us. us ++ act_of b ∷ []) up.0 in
        (b, inl refl, ap is_top_kind is, (λ j. take (s.4 j) (uids j)) ∙ sym uids)

module _ (acts : List Action) (begun : AreBegun acts) (tops : Kinds) (agree : Agrees tops acts) where
  -- with this top, which is the path's
  abbrev Tops_at : List Uid → Uid → Type 0
  Tops_at us u = (tops.is_top (uid_number u) ≡ true) × (((us ≡ u ∷ []) × (tops.root (uid_number u) ≡ uid_number u)) ⊎ ((w : Uid)
      × (us ≡ w ∷ u ∷ []) × (tops.root (uid_number u) ≡ uid_number w) × (uid_eq w u ≡ false) × (tops.is_serial (uid_number w) ≡ true)))

  of_action : (c : Action) → Contains acts c → is_top_kind c.kind ≡ true → Tops_at (uids_of c.path) (act_of c)
  of_action c there top = by c.kind refl top (agree.each c there).0 (stood acts begun c there)
    where
      alone : tops.is_top (uid_number (act_of c)) ≡ true → uids_of c.path ≡ act_of c ∷ [] → Tops_at (uids_of c.path) (act_of c)
      alone is path = (is, inl (path, (agree.each c there).1 is ∙ ap (λ us. uid_number (first_uid us)) path))

      by : (k : Kind) → c.kind ≡ k → is_top_kind k ≡ true → IsOfKind tops (act_of c) k c.path → Stood acts c k →
          Tops_at (uids_of c.path) (act_of c)
      by kind.Nested is t of s = absurd (never t refl)
      by kind.Serial is t of s = absurd (never t refl)
      by kind.Top is t of s = alone of.0 of.2
      by kind.Independent is t of s = alone of.0 of.2
      by kind.Constituent is t of s =
          let b : Action = s.0 in
          let serial : tops.is_serial (uid_number (act_of b)) ≡ true =
          (subst (λ k. IsOfKind tops (act_of b) k b.path) s.2 (agree.each b s.1).0).1 in (
            of.0,
            inr (
              act_of b,
              s.3,
              (agree.each c there).1 of.0 ∙ ap (λ us. uid_number (first_uid us)) s.3,
              uid_other (act_of b) (act_of c) (λ same. never serial (ap (λ u. tops.is_serial (uid_number u)) same ∙ of.1)),
              serial,
            ),
          )

  pub of_asker : (p : Path) → IsAsker acts p → IsOfTops tops p
  of_asker p (a, there, path, plain) =
      let r = top_in acts begun a (in_from a acts there) plain in
      let leads : top_path p ≡ uids_of r.0.path = ap top_path (sym path) ∙ r.3 in
      let q = subst (λ us. Tops_at us (last_uid us)) (sym leads) (of_action r.0 (in_to r.0 acts r.1) r.2) in
      record { top = q.0; path = q.1 }

  pub of_request : (m : Message) → FitsAsked acts m (asks m) → AreOfTops tops m
  of_request m fits h a it = of_asker h.path (by a (subst (FitsAsked acts m) it fits))
    where
      by : (a : Ask) → FitsAsked acts m (Some (h, a)) → IsAsker acts h.path
      by (ask.Bind y include avoid) f = f
      by (ask.Load y) f = f
      by (ask.Activate b st) f = f
      by (ask.Record y b i g) f = f
      by (ask.Invoke y b i ends op) f = f.0
      by (ask.Vote i ties ends) f = f.0
      by (ask.Prepare states) f = f
      by (ask.Confirm grants excluded included) f = f
