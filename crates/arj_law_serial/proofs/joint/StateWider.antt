-- Where more holds of states than before, it holds of them wherever they are.
use Rattle.arj_law_parts.proofs.Words
use Words.{ℕ, Option, Some, None, IfSome, Ask, Asked, Head, Message, ObjectState, Uid, asks, Reply, answers, At, AtActivate, AtBind}
use Words.{AtInvoke, AtLoad, AtNote, Plan, Used, plan_of, Calling, Committing, Coord, Idle, Joined, Now, Root}
use Words.ask
use Words.loaded
use Words.voted
use Rattle.arj_law_serial.proofs.Terms
use Terms.{AnsweredIsSo, AskIsSo, AskedIsSo, CoordIsSo, Fits, MessageIsSo, NowIsSo, Own, PlanIsSo, ReplyIsSo, all_each}
use Rattle.arj_law_disk_view.specs.running.States.{AtIsSo, OwnOf, RootIsSo}

-- the second holds where the first does
pub record IsWider (F G : Fits) : Type 0 where
  pub loaded : (u : Uid) (st : ObjectState) → F.loaded u st → G.loaded u st
  pub voted : (u : Uid) (st : ObjectState) → F.voted u st → G.voted u st
  pub kept : (u : Uid) (st : ObjectState) → F.kept u st → G.kept u st

module _ (F G : Fits) (more : IsWider F G) where
  -- ---- messages

  asked : (a : Ask) → AskIsSo F a → AskIsSo G a
  asked (ask.Bind x include avoid) its = tt
  asked (ask.Load x) its = tt
  asked (ask.Activate b st) its = more.loaded st.uid st its
  asked (ask.Record x b i g) its = tt
  asked (ask.Invoke x b i ends o) its = tt
  asked (ask.Vote i ties ends) its = tt
  asked (ask.Prepare states) its = all_each (Own F.kept) (Own G.kept) states (λ st. more.kept st.uid st) its
  asked (ask.Confirm grants excluded included) its = tt

  replied : (r : Reply) → ReplyIsSo F r → ReplyIsSo G r
  replied (Reply.Bound r) its = tt
  replied (Reply.Loaded (loaded.State st)) its = more.loaded st.uid st its
  replied (Reply.Loaded (loaded.InDoubt holder)) its = tt
  replied (Reply.Activated i) its = tt
  replied (Reply.Noted r) its = tt
  replied (Reply.Invoked r) its = tt
  replied (Reply.Voted (voted.Yes states)) its = all_each (Own F.voted) (Own G.voted) states (λ st. more.voted st.uid st) its
  replied (Reply.Voted (voted.Changed w)) its = tt
  replied (Reply.Prepared r) its = tt
  replied (Reply.Confirmed r) its = tt

  pub message_wider : (m : Message) → MessageIsSo F m → MessageIsSo G m
  message_wider m its = (asks_so (asks m) its.0, answers_so (answers m) its.1)
    where
      asks_so : (o : Option (Head × Ask)) → AskedIsSo F o → AskedIsSo G o
      asks_so None so = tt
      asks_so (Some a) so = asked a.1 so

      answers_so : (o : Option (Asked × Reply)) → AnsweredIsSo F o → AnsweredIsSo G o
      answers_so None so = tt
      answers_so (Some a) so = replied a.1 so

  -- ---- coordinators

  at_wider : (x : ℕ) (at : At) → AtIsSo F x at → AtIsSo G x at
  at_wider x (AtBind avoid) its = tt
  at_wider x (AtLoad q n rest) its = tt
  at_wider x (AtActivate q st) its = (more.loaded st.uid st its.0, its.1)
  at_wider x (AtNote q i) its = tt
  at_wider x (AtInvoke q i) its = tt

  plan_wider : (p : Plan) → PlanIsSo F p → PlanIsSo G p
  plan_wider p its = record {
    used = all_each (λ (u : Used). IfSome u.loaded (OwnOf F.kept u.x)) (λ (u : Used). IfSome u.loaded (OwnOf G.kept u.x)) p.used
        (λ u. by u.x u.loaded) its.used;
    changed = all_each (Own F.voted) (Own G.voted) p.changed (λ st. more.voted st.uid st) its.changed;
  }
    where
      by : (x : ℕ) (o : Option ObjectState) → IfSome o (OwnOf F.kept x) → IfSome o (OwnOf G.kept x)
      by x None so = tt
      by x (Some st) so = (more.kept st.uid st so.0, so.1)

  now_wider : (n : Now) → NowIsSo F n → NowIsSo G n
  now_wider Idle its = tt
  now_wider (Calling s) its = at_wider s.x s.at its
  now_wider (Committing m) its = plan_wider (plan_of m) its

  root_wider : (r : Root) → RootIsSo F r → RootIsSo G r
  root_wider r its = record {
    joined = all_each (λ (j : Joined). OwnOf F.kept j.x j.loaded) (λ (j : Joined). OwnOf G.kept j.x j.loaded) r.joined
        (λ j so. (more.kept j.loaded.uid j.loaded so.0, so.1)) its.joined;
    states = all_each (λ (e : ℕ × ObjectState). OwnOf F.kept e.0 e.1) (λ (e : ℕ × ObjectState). OwnOf G.kept e.0 e.1) r.states
        (λ e so. (more.kept e.1.uid e.1 so.0, so.1)) its.states;
  }

  pub coord_wider : (c : Coord) → CoordIsSo F c → CoordIsSo G c
  coord_wider c its = record {
    works = λ u d does. now_wider d.now (its.works u d does);
    roots = all_each (λ (e : ℕ × Root). RootIsSo F e.1) (λ (e : ℕ × Root). RootIsSo G e.1) c.roots (λ e. root_wider e.1) its.roots;
  }
