-- What is known of copies and votes of an object is so as a coordinator goes on, as a node stops, and where nothing is done.
use Rattle.arj_law_parts.proofs.Words
use Words.{◌≡◌, ◌∙◌, ℕ, List, [], ◌∷◌, Option, refl, sym, ap, subst, inl, AllByRecursion, Asked, ObjectState, Disk, Do, Effect, Say, Send}
use Words.{Parts, binding_number, Base, Binding, Post, Seen}
use Rattle.arj_law_serial.proofs.Terms
use Terms.{Action, World, IsLater, AllSay, Run, start, State, Fixed, In, at, Up, Walks, halted, AreBased, IsBasedAt, IsKnownState}
use Terms.{IsVotedState, coord_fits, SendsNoYes}
use Rattle.arj_law_serial.proofs.joint
use joint.{BasedNodes.sends_so}
use joint.BasedLater.{coord_on, copies_on, post_on, yes_on}
use joint.BasedWalks.{EffectIsSo, Next, PartsAreBased, based_walk, rest_of, stopped}
use Rattle.arj_law_serial.proofs.joint.BasedNodes as nodes

-- no Yes is new
abbrev pub NoNew : Post → Asked → List ObjectState → Type 0
NoNew p a states = ⊥

module _ (f : Fixed) (x : ℕ) (S : State) (W : World) (reached : Run (start f.first) S) where
  abbrev B : Binding → Base → Type 0
  B b base = IsBasedAt S W (binding_number b) base.version base.writer

  -- nodes and what was sent stay
  pub quiet_based : (M N : Seen) → N.nodes ≡ M.nodes → N.sent ≡ M.sent → AreBased f x S W M → (T : State) (V : World) → Run S T →
      IsLater W V → AreBased f x T V N
  quiet_based M N nodes sent are T V run later = record {
    copies =
        λ j n t there live. copies_on f x S T W V reached run later t.server (are.copies j n t (ap (λ g. g j) (sym nodes) ∙ there) live);
    coords = λ j n t there live. coord_on f x S T W V reached run later t.coord (are.coords j n t (ap (λ g. g j) (sym nodes) ∙ there) live);
    posts = λ p i. post_on f x S T W V reached run later p.message (are.posts p (subst (In p) sent i));
    yeses = λ p a states i is. yes_on f x S T W V reached run later M.sent N.sent p a states (λ q c. subst (In q) (sym sent) c)
        (are.yeses p a states (subst (In p) sent i) is);
  }

  module _ (k : ℕ) (begun : List Action) (d : Disk) (live : Option Parts) (M : Seen) (are : AreBased f x S W (at k d live M)) where
    abbrev pub On : Seen → Type 0
    On Z = Next f x k begun S W M reached NoNew (rest_of f x S W k d live M are) Z

    -- the node stops
    pub stop_based : (e : ℕ) → On (halted e k d M)
    stop_based e = stopped f x k begun S W M reached NoNew (rest_of f x S W k d live M are) e d M refl (λ p a states new. new)
        ((λ p i. i), (λ p i. are.posts p i), λ p a states i is. inl (are.yeses p a states i is))

    zip : (es : List Effect) → AllByRecursion (nodes.SendIsSo x (IsKnownState W) (IsVotedState f x S W) B) es →
        AllByRecursion SendsNoYes es → AllByRecursion (EffectIsSo f x k begun S W M reached NoNew (rest_of f x S W k d live M are)) es
    zip [] a b = tt
    zip (Send to z ∷ es) a b = ((a.0, b.0), zip es a.1 b.1)
    zip (Say z ∷ es) a b = (tt, zip es a.1 b.1)
    zip (Do z ∷ es) a b = ((λ p c states new. new), zip es a.1 b.1)

    -- a coordinator goes on, or the node starts again
    pub coord_based : (e : ℕ) (outs : List Effect) (v : Parts) (L : Seen) → L.nodes ≡ M.nodes → L.sent ≡ M.sent → PartsAreBased f x S W v →
        AllSay (coord_fits f x S W) outs → AllByRecursion SendsNoYes outs → Walks On e k outs (Up On k v) d L
    coord_based e outs v L same sent its says none = based_walk f x k begun S W M reached NoNew (rest_of f x S W k d live M are) v its
        (λ c N T V within run later sees parts p a states new. absurd new) e outs
        (zip outs (sends_so x (IsKnownState W) (IsVotedState f x S W) B outs says) none) d L same (
          (λ p i. subst (In p) (sym sent) i),
          (λ p i. are.posts p (subst (In p) sent i)),
          λ p a states i is. inl (are.yeses p a states (subst (In p) sent i) is),
        )
