-- The places of begun actions are those of a journal with the same actions.
use Rattle.arj_law_parts.proofs.Words
use Words.{◌≡◌, not, List, [], ◌∷◌, true, false, Some, refl, sym, ◌∙◌, ap, subst, inl, inr, first_uid, uids_of, is_on, Kind, Line, In}
use Words.{in_from, in_to, is_serial}
use Rattle.arj_law_serial.proofs.Terms
use Terms.{Act, acts, path, root_in, uids, Action, act_of, Paths, is_top, new_book, AreDistinct, AreRight, one_act, AreSound}
use Terms.{its_sound, on_path, on_uids, path_new, path_old, is_action, on, root, top_action, IsPlaced, Acts, AreOneTree, Began, HasPlaces}
use Terms.{path_of}
use Terms.kind
use Terms.machine
use Rattle.arj_law_serial.proofs.order.Paths.{own_there}
use Rattle.arj_law_runs.specs.journal.Paths as lines_law
use Rattle.arj_law_lock_view.specs.view.Actions as view

-- ---- places

-- an action of a journal as one that was begun
record IsOf (begun : List Action) (b : Act) (p : List Act) : Type 0 where
  action : Action
  there : In action begun
  uid : b.uid ≡ act_of action
  kind : b.kind ≡ action.kind
  path_is : uids p ≡ uids_of action.path

begun_of : (begun : List Action) (acts : List Act) → lines_law.AreAlike begun acts → AreDistinct acts → (b : Act) → In b acts →
    IsOf begun b (path acts b.label)
begun_of begun [] alike apart b i = absurd i
begun_of [] (x ∷ acts) alike apart b i = absurd alike
begun_of (a ∷ begun) (x ∷ acts) alike apart b (inl same) =
    subst (λ (z : Act). IsOf (a ∷ begun) z (path (x ∷ acts) z.label)) same
    (record { action = a; there = inl refl; uid = alike.0; kind = alike.1; path_is = ap uids (path_new x acts) ∙ alike.2 })
begun_of (a ∷ begun) (x ∷ acts) alike apart b (inr i) =
    let r = begun_of begun acts alike.3 apart.3 b i in
    record {
      action = r.action;
      there = inr r.there;
      uid = r.uid;
      kind = r.kind;
      path_is = ap uids (path_old x acts b apart.1 i) ∙ r.path_is;
    }

module _ (begun : List Action) (paths : Paths) (act : Acts) (lines : List Line) (right : AreRight new_book lines)
    (alike : lines_law.AreAlike begun (acts lines)) (tree : AreOneTree (record { begun = begun; paths = paths; act = act })) where
  sound : AreSound (acts lines)
  sound = its_sound lines right

  same : view.AreAlike act paths
  same = tree.alike

  the_action : (a : Act) → Began lines a → IsOf begun a (path_of lines a)
  the_action a c = begun_of begun (acts lines) alike sound.distinct a (in_from a (acts lines) c)

  pub path_same : (a : Act) → Began lines a → paths a.uid ≡ uids (path_of lines a)
  path_same a c = let r = the_action a c in ap paths r.uid ∙ tree.agree r.action (in_to r.action begun r.there) ∙ sym r.path_is

  placed : (a : Act) → Began lines a → IsPlaced (act a.uid) a.kind
  placed a c = let r = the_action a c in subst (λ u. IsPlaced (act u) a.kind) (sym r.uid)
      (subst (IsPlaced (act (act_of r.action))) (sym r.kind) (tree.placed r.action (in_to r.action begun r.there)))

  no_top : (m : machine.Act) → is_action m ≡ false → machine.is_top m ≡ false
  no_top (machine.Root u) e = refl
  no_top (machine.Sub m n) e = absurd (cc e)

  tops_by : (m : machine.Act) (k : Kind) → IsPlaced m k → machine.is_top m ≡ is_top k
  tops_by m kind.Serial p = no_top m p
  tops_by m kind.Nested p = p.1
  tops_by m kind.Top p = p
  tops_by m kind.Constituent p = p
  tops_by m kind.Independent p = p

  actions_by : (m : machine.Act) (k : Kind) → IsPlaced m k → is_action m ≡ not (is_serial k)
  actions_by m kind.Serial p = p
  actions_by m kind.Nested p = p.0
  actions_by m kind.Top p = top_action m p
  actions_by m kind.Constituent p = top_action m p
  actions_by m kind.Independent p = top_action m p

  filled : (a : Act) (m : machine.Act) → Began lines a → on (act a.uid) m ≡ true → is_action m ≡ true →
      (b : Act) × Began lines b × (m ≡ act b.uid)
  filled a m c on_act action =
      let w = same.filled a.uid m on_act action in
      let on_path_of : is_on (uids (path_of lines a)) w.0 ≡ true = ap (λ us. is_on us w.0) (sym (path_same a c))
      ∙ sym (same.above a.uid w.0) ∙ ap (on (act a.uid)) (sym w.1) ∙ on_act in
      let f = on_uids (path_of lines a) w.0 on_path_of in
      (f.0, in_to f.0 (acts lines) (on_path (acts lines) a.label f.0 f.1), w.1 ∙ ap act (sym f.2))

  -- two paths that begin with one Uid have one root
  units : (a b : Act) → Began lines a → Began lines b → root (act a.uid) ≡ root (act b.uid) →
      root_in (path_of lines a) ≡ root_in (path_of lines b)
  units a b c d e =
      by (path_of lines a) (path_of lines b) (λ x i. on_path (acts lines) a.label x i) (λ x i. on_path (acts lines) b.label x i)
      (own_there (acts lines) sound.distinct sound.formed a (in_from a (acts lines) c))
      (own_there (acts lines) sound.distinct sound.formed b (in_from b (acts lines) d))
      (ap first_uid (sym (path_same a c)) ∙ same.units a.uid b.uid e ∙ ap first_uid (path_same b d))
    where
      by : (p q : List Act) → ((x : Act) → In x p → In x (acts lines)) → ((x : Act) → In x q → In x (acts lines)) → In a p → In b q →
          first_uid (uids p) ≡ first_uid (uids q) → root_in p ≡ root_in q
      by [] q f g i j first = absurd i
      by (x ∷ p) [] f g i j first = absurd j
      by (x ∷ p) (y ∷ q) f g i j first =
          ap (λ (z : Act). Some z.id) (one_act (acts lines) sound.distinct x y (f x (inl refl)) (g y (inl refl)) first)

  pub begun_have_places : HasPlaces act lines
  begun_have_places = record {
    one = λ a b c d e. same.one a.uid b.uid e;
    above = λ a b c d. same.above a.uid b.uid ∙ ap (λ us. is_on us b.uid) (path_same a c);
    filled = filled;
    tops = λ a c. tops_by (act a.uid) a.kind (placed a c);
    actions = λ a c. actions_by (act a.uid) a.kind (placed a c);
    units = units;
  }
