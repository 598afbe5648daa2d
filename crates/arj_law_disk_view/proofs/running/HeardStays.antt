-- What coordinators have of naming's answers stays seen as the machine goes on.
use Rattle.arj_law_parts.proofs.Words
use Words.{◌≡◌, ◌⊎◌, ℕ, if◌then◌else◌, Bool, true, false, List, Option, Some, None, refl, sym, ◌∙◌, ap, subst, inl, inr, ⊎_elim, ⊤, Uid}
use Words.{Ask, BoundReply, Head, asks, Reply, answers, asked_by, top_of, AtLoad, Known, Steps, is_include, Machine, Calling, Coord, Doing}
use Words.{doing_of, root_at, uid_number, at_place, is_own, root_of, Post}
use Words.ask
use Words.bound
use Words.loaded
use Rattle.arj_law_disk_view.proofs.Terms
use Terms.{Answer, Loaded, Names, Office, newer, written_in, In, head_of, packed, IsFixed, IsLater, Kinds, OnlyMemory, ClaimsBound}
use Terms.{HasGiven, IsAfter, HasList, HasRetained, Named, ClaimsAsked, HasNoneOf, IsHadBy, IsListFor, IsOfRoot, IsToStep, NamesNow}
use Terms.{SeesCall, SeesHeardAt, SeesPlan, SeesStep, IsOfGoal}
use Terms.seen
use Rattle.arj_law_disk.specs.machine.Names.{Bound}
use Rattle.arj_law_disk_view.proofs.names.{GrantClaims.grants_stay_counted_on, RootsBoth.root_stays}

-- of this root the machine's grants, kept lists and states are as they were
pub record StaysOf (tops : Kinds) (root : ℕ) (A B : Office) : Type 0 where
  pub had : (h : ℕ) → IsOfRoot tops root h → B.names.had h ≡ A.names.had h
  pub kept : (h : ℕ) → IsOfRoot tops root h → B.names.kept h ≡ A.names.kept h
  pub states : written_in A.world.disk.root root B.world.disk.tops ≡ written_in A.world.disk.root root A.world.disk.tops

-- the machine goes on: grants and answers grow
pub record GoesOn (A B : Office) : Type 0 where
  pub later : IsLater A.world B.world
  pub had : (h i : ℕ) → A.names.had h i ≡ true → B.names.had h i ≡ true
  pub answers : (a : Answer) → In a A.names.answers → In a B.names.answers

-- a post is new, and says nothing to a step
pub record IsNewTo (x : ℕ) (B : Office) (p : Post) : Type 0 where
  pub none : answers p.message ≡ None
  pub claims : ClaimsAsked x B (asks p.message)

-- what was sent, and more
pub record SendsMore (x : ℕ) (B : Office) (few many : List Post) : Type 0 where
  pub within : (p : Post) → seen.In p few → seen.In p many
  pub new : (p : Post) → seen.In p many → seen.In p few ⊎ IsNewTo x B p

-- what an answer says to a step
abbrev pub SaysToStep : ℕ → Steps → Reply → Names → Type 0
SaysToStep x s (Reply.Bound r) N = IsOfGoal (is_include s.goal) r × ClaimsBound x s.x (uid_number (top_of s.path)) r N × NamesNow r
SaysToStep x s (Reply.Loaded (loaded.State st)) N = (q : Known) (n : ℕ) (rest : List ℕ) → s.at ≡ AtLoad q n rest →
    is_include s.goal ≡ true → In (Loaded (uid_number (top_of s.path)) q.grant (packed st)) N.answers
SaysToStep x s _ N = ⊤

-- an answer to a step was sent before, where no answers were sent since
pub was_to : (x : ℕ) (B : Office) (k : ℕ) (few many : List Post) (s : Steps) → SendsMore x B few many → (r : Reply) → IsToStep k many s r →
    IsToStep k few s r
was_to x B k few many s more r to =
    ⊎_elim (λ old. record { post = to.post; posted = old; node = to.node; answer = to.answer }) (λ (new : IsNewTo x B to.post).
    absurd (let n : None ≡ Some (asked_by (head_of s), r) = sym new.none ∙ to.answer in cc)) (more.new to.post to.posted)

-- an action at work is the coordinator's
pub own_doing : (c : Coord) (u : Uid) (q : Doing) → doing_of u c ≡ Some q → is_own u c.tree ≡ true
own_doing c u q does = by (is_own u c.tree) refl does
  where
    by : (b : Bool) → is_own u c.tree ≡ b → (if b then at_place u.num c.doings else None) ≡ Some q → is_own u c.tree ≡ true
    by true is at = is
    by false is at = absurd (cc at)

module _ (x : ℕ) (tops : Kinds) (A B : Office) (f : IsFixed tops A.world.disk) (h : IsFixed tops B.world.disk) (on : GoesOn A B) where
  roots : B.world.disk.root ≡ A.world.disk.root
  roots = h.root ∙ sym f.root

  given_on : (t : ℕ) (r : BoundReply) → HasGiven t r A.names → HasGiven t r B.names
  given_on t (bound.Live b server i g stores) c = on.answers (Bound t g false stores) c
  given_on t (bound.Make b server g stores) c = on.answers (Bound t g false stores) c
  given_on t (bound.Write g stores) c = on.answers (Bound t g true stores) c
  given_on t (bound.Conflict holder m) c = tt

  -- a step, where each answer that was sent to it was so before, or says what it claims
  pub step_goes : (k : ℕ) (few many : List Post) (s : Steps) → ((r : Reply) → IsToStep k many s r →
      IsToStep k few s r ⊎ SaysToStep x s r B.names) → SeesStep x k few s A.names → SeesStep x k many s B.names
  step_goes k few many s was q = record {
    stands = λ g at. on.had (uid_number (top_of s.path)) g (q.stands g at);
    listed = λ e n rest at inc. let l = q.listed e n rest at inc in
        record { answered = on.answers (Bound (uid_number (top_of s.path)) e.grant true e.stores) l.answered; stores = l.stores };
    goal = q.goal;
    bound = λ r to. ⊎_elim (λ old. let c = q.bound r old in
        (c.0, λ same. given_on (uid_number (top_of s.path)) r (c.1 same))) (λ new. (new.0, new.1)) (was (Reply.Bound r) to);
    named = λ r to. ⊎_elim (λ old. q.named r old) (λ new. new.2) (was (Reply.Bound r) to);
    loaded = λ e n rest st at inc to. ⊎_elim (λ old. on.answers _ (q.loaded e n rest st at inc old)) (λ new. new e n rest at inc)
        (was (Reply.Loaded (loaded.State st)) to);
  }

  -- ---- a commit

  module _ (u : Uid) (stays : StaysOf tops (tops.root (uid_number u)) A B) where
    abbrev t : ℕ
    t = uid_number u

    root_is : A.world.disk.root t ≡ tops.root t
    root_is = ap (λ g. g t) f.root

    had_own : B.names.had t ≡ A.names.had t
    had_own = stays.had t (inr refl)

    had_root : B.names.had (B.world.disk.root t) ≡ A.names.had (A.world.disk.root t)
    had_root = ap (λ g. B.names.had (g t)) roots ∙ stays.had (A.world.disk.root t) (inl root_is)

    pub was_had : (i : ℕ) → IsHadBy B t i → IsHadBy A t i
    was_had i had = ⊎_elim (λ own. inl (sym (ap (λ g. g i) had_own) ∙ own)) (λ its. inr (sym (ap (λ g. g i) had_root) ∙ its)) had

    is_had : (i : ℕ) → IsHadBy A t i → IsHadBy B t i
    is_had i had = ⊎_elim (λ own. inl (ap (λ g. g i) had_own ∙ own)) (λ its. inr (ap (λ g. g i) had_root ∙ its)) had

    list_stays : (stores : List ℕ) → IsListFor A t stores → IsListFor B t stores
    list_stays stores l = record {
      inc = l.inc;
      had = is_had l.inc l.had;
      list = λ j one. let q = l.list j (λ i had. one i (is_had i had)) in (
        q.0,
        ⊎_elim (λ own. inl own) (λ its. inr (its ∙ sym (ap (λ g. g t) roots))) q.1,
        q.2,
        stays.kept q.0 (⊎_elim (λ own. inr (ap tops.root own)) (λ its. inl (its ∙ root_is)) q.1) ∙ q.3,
        q.4,
      );
    }

    states_are : written_in B.world.disk.root (B.world.disk.root t) B.world.disk.tops
        ≡ written_in A.world.disk.root (A.world.disk.root t) A.world.disk.tops
    states_are = ap (λ g. written_in g (g t) B.world.disk.tops) roots ∙ subst (λ r. written_in A.world.disk.root r B.world.disk.tops
        ≡ written_in A.world.disk.root r A.world.disk.tops) (sym root_is) stays.states

    pub plan_stays : (m : Machine) → SeesPlan x tops u m A → SeesPlan x tops u m B
    plan_stays m q = record {
      top = q.top;
      grants = λ w i at had. q.grants w i at (was_had i had);
      changed = q.changed;
      list = λ w votes at called. list_stays w.stores (q.list w votes at called);
      loaded = λ w st votes at is. let l = q.loaded w st votes at is in let d = l.load in record {
        state = l.state;
        load = record { inc = d.inc; answered = on.answers _ d.answered; had = ap (λ g. g d.inc) had_own ∙ d.had };
        newest = l.newest ∙ ap (newer l.state) (sym states_are);
      };
    }

  pub none_stays : (u : ℕ) → StaysOf tops u A B → HasNoneOf tops u A → HasNoneOf tops u B
  none_stays u stays none = record {
    had = λ z i of. ap (λ g. g i) (stays.had z of) ∙ none.had z i of;
    kept = λ z of. stays.kept z of ∙ none.kept z of;
    states = ap (λ g. written_in g u B.world.disk.tops) roots ∙ (stays.states ∙ none.states);
  }

  -- what a request claims it claims still
  pub claim_stays : Named A → Named B → IsAfter A B → (o : Option (Head × Ask)) → ClaimsAsked x A o → ClaimsAsked x B o
  claim_stays named held after None c = tt
  claim_stays named held after (Some (z, ask.Bind y include avoid)) c = tt
  claim_stays named held after (Some (z, ask.Load y)) c = tt
  claim_stays named held after (Some (z, ask.Activate b st)) c = tt
  claim_stays named held after (Some (z, ask.Record y b i g)) c = λ same. on.had (uid_number (top_of z.path)) g (c same)
  claim_stays named held after (Some (z, ask.Invoke y b i ends op)) c = tt
  claim_stays named held after (Some (z, ask.Vote i ties ends)) c = tt
  claim_stays named held after (Some (z, ask.Prepare states)) c = tt
  claim_stays named held after (Some (z, ask.Confirm grants excluded included)) c = (
    on.later.begun (uid_number (top_of z.path)) c.0,
    grants_stay_counted_on x (uid_number (top_of z.path)) grants A B named held c.0 after c.1,
  )

  -- a call under way has its list still
  pub call_stays : {c : Coord} (s : Steps) → SeesCall x tops c s A.names → StaysOf tops (tops.root (uid_number (top_of s.path))) A B →
      SeesCall x tops c s B.names
  call_stays s z stays = record {
    own = z.own;
    top = z.top;
    known = z.known;
    kept = z.kept;
    list = ⊎_elim
        (λ (l : HasList A.names (uid_number (top_of s.path)) z.known). inl (record {
          kept = l.kept;
          there = stays.kept (uid_number (top_of s.path)) (inr refl) ∙ l.there;
          since = l.since;
          within = l.within;
        }))
        (λ (l : HasRetained A.names (uid_number (root_of s.path)) z.known).
        let its : uid_number (root_of s.path) ≡ tops.root (uid_number (top_of s.path)) = sym (let w = z.top in w.of_root) in
        inr (record {
          had = ap (λ g. g (let b = (let k = z.known in k.binding) in b.inc)) (stays.had (uid_number (root_of s.path)) (inl its)) ∙ l.had;
          kept = l.kept;
          there = stays.kept (uid_number (root_of s.path)) (inl its) ∙ l.there;
        }))
        z.list;
  }

  -- ---- a coordinator

  -- a coordinator of which each root stays, where answers that were sent to its steps were so before, or say what they claim
  pub at_goes : (k : ℕ) (few many : List Post) (c : Coord) → ((u : Uid) (q : Doing) (s : Steps) → doing_of u c ≡ Some q →
      q.now ≡ Calling s → s.x ≡ x → (r : Reply) → IsToStep k many s r → IsToStep k few s r ⊎ SaysToStep x s r B.names)
      → ((u : Uid) → is_own u c.tree ≡ true → (tops.root (uid_number u) ≡ uid_number u) ⊎ (tops.is_top (uid_number u) ≡ true) →
      StaysOf tops (tops.root (uid_number u)) A B) → SeesHeardAt x k tops few c A → SeesHeardAt x k tops many c B
  at_goes k few many c said stays p = record {
    roots = λ root w. let s = subst (λ r. StaysOf tops r A B) w.alone (stays root w.own (inl w.alone)) in
        root_stays x tops root c (root_at root c) A B f h (p.roots root w) s.had s.kept on.answers s.states;
    steps = λ u q s does now of. step_goes k few many s (said u q s does now of) (p.steps u q s does now of);
    calls = λ u q s does now of call past. let z = p.calls u q s does now of call past in
        call_stays s z (stays (top_of s.path) z.own (inr (let w = z.top in w.top)));
    includes = p.includes;
    plans = λ u q m does now. let l = p.plans u q m does now in plan_stays u (stays u (own_doing c u q does) (inr l.top)) m l;
  }

  pub at_stays : (k : ℕ) (few many : List Post) (c : Coord) → SendsMore x B few many → ((u : Uid) → is_own u c.tree ≡ true →
      (tops.root (uid_number u) ≡ uid_number u) ⊎ (tops.is_top (uid_number u) ≡ true) → StaysOf tops (tops.root (uid_number u)) A B)
      → SeesHeardAt x k tops few c A → SeesHeardAt x k tops many c B
  at_stays k few many c more stays p = at_goes k few many c (λ u q s does now of r to. inl (was_to x B k few many s more r to)) stays p

-- where nothing but naming's memory has changed each root stays
pub memory_goes : (A B : Office) → OnlyMemory A B → GoesOn A B
memory_goes A B only = record { later = only.later; had = λ z i has. ap (λ g. g z i) only.had ∙ has; answers = only.answers }

pub memory_stays : (tops : Kinds) (A B : Office) → OnlyMemory A B → (r : ℕ) → StaysOf tops r A B
memory_stays tops A B only r = record {
  had = λ z of. ap (λ g. g z) only.had;
  kept = λ z of. ap (λ g. g z) only.kept;
  states = ap (written_in A.world.disk.root r) only.tops;
}
