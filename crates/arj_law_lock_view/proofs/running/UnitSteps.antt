-- A coordinator does something for one unit: all else is seen as before.
use Rattle.arj_law_parts.proofs.Words
use Words.{◌≡◌, ◌≢◌, ◌≤◌, ◌<◌, ◌⊎◌, ◌∙◌, ◌+◌, ℕ, true, false, List, Option, Some, None, sym, ap, subst, inl, ⊎_elim, length, Contains, Uid}
use Words.{entry, first_uid, top_of, Disk, Naming, Parts, binding_number, Seen}
use Rattle.arj_law_lock_view.proofs.Terms
use Terms.{In, Root, is_top, root, Run, State, Action, act_of, IsIdle, IsUntouched, IsReached, OnlyCalled, SeesNamingIn, OnlyIncluded}
use Terms.{OnlyEnded, SeesRows, Sees, View, HaveFirsts, OnlyUnit, Fixed, view_of, IsFresh, IsUnbegun, SeesMemory}
use Terms.machine as state
use Rattle.arj_law_lock_view.proofs.running
use running.{OtherSteps.SeesOthers, OtherSteps.others_go}
use running.MoveSteps.{down_on, nothing_on, up_on}
use Rattle.arj_law_lock_view.proofs.view
use view.{BesideSteps.servers_stay_seen, EverSteps.ever, StopSteps.stops_stay}
use view.OutsideSteps.{calls_elsewhere, ends_elsewhere, includes_elsewhere}
use Rattle.arj_law_lock_view.specs.view.Named.{HasLast}

-- ---- what each clause leaves

module _ (f : Fixed) (x unit : ℕ) (S T : State) (reached : IsReached S) (run : Run S T) where
  pub called_unit : OnlyCalled unit S T → OnlyUnit f x unit S T
  called_unit o = record {
    naming = ap (λ (s : State). s.naming) o.rest;
    confirmed = ap (λ (s : State). s.confirmed) o.rest;
    servers = ap (λ (s : State). s.server) o.rest;
    actions = o.actions;
    ended = o.ended;
    kept = o.kept;
    bindings = o.bindings;
    named = λ b is. o.named b (inl is);
    calls = o.fresh;
    includes = λ k i. inl (subst (In k) (ap (λ (s : State). s.includes) o.rest) i);
    sent = o.sent;
    coords = λ c away s. calls_elsewhere f.act f.code x unit c S T reached run away o s;
  }

  pub ended_unit : OnlyEnded unit S T → OnlyUnit f x unit S T
  ended_unit o = record {
    naming = ap (λ (s : State). s.naming) o.rest;
    confirmed = ap (λ (s : State). s.confirmed) o.rest;
    servers = ap (λ (s : State). s.server) o.rest;
    actions = o.others;
    ended = o.ended;
    kept = λ n other. ap (λ (s : State). s.kept n) o.rest;
    bindings = λ b. (ap (λ (s : State). (s.binding b).server) o.rest, ap (λ (s : State). (s.binding b).maker) o.rest);
    named = λ b is. ap (λ (s : State). s.binding b) o.rest;
    calls = λ d i. inl (subst (In d) (ap (λ (s : State). s.calls) o.rest) i);
    includes = λ k i. inl (subst (In k) (ap (λ (s : State). s.includes) o.rest) i);
    sent = (let e = ever reached run in e.sent);
    coords = λ c away s. ends_elsewhere f.act f.code x unit c S T reached run away o s;
  }

  pub included_unit : OnlyIncluded S T → ((k : state.Include) → In k T.includes → In k S.includes ⊎ (root k.act ≡ unit)) →
      OnlyUnit f x unit S T
  included_unit o fresh = record {
    naming = ap (λ (s : State). s.naming) o;
    confirmed = ap (λ (s : State). s.confirmed) o;
    servers = ap (λ (s : State). s.server) o;
    actions = λ a other. ap (λ (s : State). s.action a) o;
    ended = λ a over. ap (λ (s : State). s.action a) o;
    kept = λ n other. ap (λ (s : State). s.kept n) o;
    bindings = λ b. (ap (λ (s : State). (s.binding b).server) o, ap (λ (s : State). (s.binding b).maker) o);
    named = λ b is. ap (λ (s : State). s.binding b) o;
    calls = λ d i. inl (subst (In d) (ap (λ (s : State). s.calls) o) i);
    includes = fresh;
    sent = (let e = ever reached run in e.sent);
    coords = λ c away s. includes_elsewhere f.act f.code x unit c S T reached run away o fresh s;
  }

-- ---- naming and servers

module _ (f : Fixed) (x unit : ℕ) (S T : State) (only : OnlyUnit f x unit S T) where
  pub naming_unit : (w : View) (o : Option Naming) → SeesNamingIn w S o → SeesNamingIn w T o
  naming_unit w None s = tt
  naming_unit w (Some n) s = (let o = s.seen in record {
    named = s.named;
    there = s.there;
    seen = record {
      rows = subst (λ (z : state.Naming). SeesRows w.family.act (entry w.x) (let q = s.named in q.rows) z.rows) (sym only.naming) o.rows;
      bound =
          subst (λ (z : state.Naming). z.bound ≤ binding_number (record { inc = n.inc; count = n.count + 1 })) (sym only.naming) o.bound;
      first = ap (λ (z : state.Naming). z.first) only.naming ∙ o.first;
      recorded = λ b is. ap (λ (z : state.Naming). z.recorded) only.naming ∙ o.recorded b is;
      unrecorded = λ none. subst (λ (z : state.Naming). z.recorded < z.first) (sym only.naming) (o.unrecorded none);
      known = λ b is. only.sent (state.Recorded (binding_number b)) (o.known b is);
      live = λ l is. (let k = o.live l is in let e = only.named (binding_number l.binding) k.named in record {
        server = ap (λ (b : state.Binding). b.server) e ∙ k.server;
        named = ap (λ (b : state.Binding). b.named) e ∙ k.named;
        incarnation = ap (λ (b : state.Binding). b.incarnation) e ∙ k.incarnation;
      });
      made = λ t m is. (let k = o.made t m is in let e = only.bindings (binding_number m.binding) in record {
        last = ap (λ (z : state.Naming). z.made (w.family.act t)) only.naming ∙ k.last;
        server = e.0 ∙ k.server;
        maker = e.1 ∙ k.maker;
        sent = only.sent (state.Made (w.family.act t) (binding_number m.binding)) k.sent;
        noted = λ yes. only.sent (state.Recorded (binding_number m.binding)) (k.noted yes);
      });
      asked = λ t is. o.asked t (ap (λ (z : state.Naming). z.asked (w.family.act t)) (sym only.naming) ∙ is);
      making = subst (λ (z : state.Naming). (t : Uid) → is_top (w.family.act t) ≡ true → z.first ≤ z.made (w.family.act t) →
          z.told (w.family.act t) ≡ false → HasLast w.family.act s.named z t) (sym only.naming) o.making;
    };
    told = λ p topped free. ap (λ (z : state.Naming). z.told (w.family.act (top_of p))) only.naming ∙ s.told p topped free;
    confirmed = λ u is. s.confirmed u (ap (λ (z : state.Naming). z.confirmed (w.family.act u)) (sym only.naming) ∙ is);
    firsts = subst (λ (z : state.Naming). HaveFirsts w.family.act n.confirmed z.confirmed (let q = s.named in q.rows)) (sym only.naming)
        s.firsts;
  })

  pub server_unit : (w : View) (t : Parts) → Sees w t.server S → Sees w t.server T
  server_unit w t s = servers_stay_seen w t.server S T (ap (λ (g : ℕ → state.Server). g w.node) only.servers) only.sent s

  -- ---- other nodes

  -- the unit's actions have their root at the node
  module _ (begun : List Action) (k : ℕ) (home : (u : Uid) → root (f.act u) ≡ unit → (let r = first_uid (f.paths u) in r.node) ≡ k) where
    away : (j : ℕ) → (j ≡ k → ⊥) → (u : Uid) → (let r = first_uid (f.paths u) in r.node) ≡ j → root (f.act u) ≢ unit
    away j other u there is = other (sym there ∙ home u is)

    pub memory_unit : (j : ℕ) (d : Disk) (live : Option Parts) → (j ≡ k → ⊥) → SeesMemory (view_of f x begun j) S d live →
        SeesMemory (view_of f x begun j) T d live
    memory_unit j d None other s = down_on (view_of f x begun j) S T d only.ended (ap (λ (g : ℕ → state.Server). g j) only.servers)
        (λ one. nothing_on d.inc S T only.naming (s.naming one))
        (λ z. stops_stay f.act z.tree z.last S T
        (λ a (u, b, found, same). only.actions a (λ its. away j other u (z.home u b found) (sym same ∙ its))) z.stopped) s
    memory_unit j d (Some t) other s =
        up_on (view_of f x begun j) S T d t only.ended (server_unit (view_of f x begun j) t s.server) (only.coords t.coord
        (λ u b found. away j other u (s.home u b found)) s.coord) (naming_unit (view_of f x begun j) t.naming s.naming) s

-- ---- what isn't begun

-- whoever changed was begun, and so was somebody of the unit
module _ (f : Fixed) (x unit : ℕ) (begun : List Action) (S T : State) (only : OnlyUnit f x unit S T)
    (one : (a : Action) × Contains begun a × (root (f.act (act_of a)) ≡ unit)) (changed : (u : Uid) → IsUnbegun begun u →
    T.action (f.act u) ≡ S.action (f.act u)) where
  pub fresh_unit : IsFresh f begun S → IsFresh f begun T
  fresh_unit fresh = record {
    actions = λ u un. subst IsUntouched (sym (changed u un)) (fresh.actions u un);
    units = λ n none. (let o = fresh.units n none in let off = not_it n none in record {
      stage = ap (λ (a : state.Action). a.stage) (only.actions (Root n) (λ is. off is)) ∙ o.stage;
      waits = ap (λ (a : state.Action). a.waits) (only.actions (Root n) (λ is. off is)) ∙ o.waits;
      idle = λ a home its. subst IsIdle (sym (only.actions a (λ is. off (sym home ∙ is)))) (o.idle a home its);
      kept = only.kept n (λ is. off is) ∙ o.kept;
      calls = λ d there. ⊎_elim (λ old. o.calls d old) (λ new is. off (sym is ∙ new)) (only.calls d there);
      includes = λ d there. ⊎_elim (λ old. o.includes d old) (λ new is. off (sym is ∙ new)) (only.includes d there);
    });
  }
    where
      not_it : (n : ℕ) → ((a : Action) → Contains begun a → root (f.act (act_of a)) ≢ n) → n ≢ unit
      not_it n none is = none one.0 one.1 (one.2 ∙ sym is)

-- ---- the world but the node

module _ (f : Fixed) (x unit : ℕ) (begun : List Action) (k : ℕ) (S T : State) (M : Seen) (run : Run S T) (only : OnlyUnit f x unit S T)
    (home : (u : Uid) → root (f.act u) ≡ unit → (let r = first_uid (f.paths u) in r.node) ≡ k)
    (one : (a : Action) × Contains begun a × (root (f.act (act_of a)) ≡ unit)) (changed : (u : Uid) → IsUnbegun begun u →
    T.action (f.act u) ≡ S.action (f.act u)) where
  pub others_unit : T.now ≤ length M.lines + 1 → SeesOthers f x begun k S M → SeesOthers f x begun k T M
  others_unit now s = others_go f x begun k S T M s run (λ elsewhere. only.confirmed) (λ j disk live other seen.
      memory_unit f x unit S T only begun k home j disk live other seen) (fresh_unit f x unit begun S T only one changed s.fresh) now
