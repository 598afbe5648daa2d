-- What naming does with a Bind goes in the machine.
use Rattle.arj_law_parts.proofs.Words
use Words.{◌≡◌, ◌≢◌, ◌≤◌, ◌<◌, ◌⊎◌, ◌∙◌, ◌&&◌, ◌==◌, ◌+◌, not, ℕ, List, Bool, true, false, cond, Option, Some, None, refl, sym, ap, subst}
use Words.{inl, inr, ⊎_elim, arith, eqb-true, and_parts, ltb-true, uid_cases, Uid, Path, Binding, Mode, Row, Entry, BoundReply, entry}
use Words.{is_on, last_uid, tops_of, top_of, top_path, Named, Live, Made, Counted, live_above, made_above, locked, conflict_on, next_server}
use Words.{bind_named, bind_call, live_asked, make_asked, bind_made, include_asked, at_uid, with_uid, binding_number, binding_less}
use Words.mode
use Words.bound
use Rattle.arj_law_lock_view.proofs.Terms
use Terms.{Act, same, Guard, next, stay, step, State, BindLive, BindNew, Grant, act_here, act_other, at_here, same_is, Owners, put_cases}
use Terms.{put_other, put_same, with_on, Acts, AreOne, IsTopped, IsGood, Goes, NobodyTold, OnlyNaming, ShowsBound, Place, SeesMade}
use Terms.{SeesNamed, binding_at}
use Terms.machine
use Rattle.arj_law_lock_view.proofs.view.RowSteps.{asked_seen, clear_seen, raised_seen}
use Rattle.arj_law_lock_view.specs.view.Bindings.{BindsAreSeen}
use Rattle.arj_protocol.specs.Named.{make}

-- what is above a binding is what there was
live_is : (avoid : Binding) (v : Option Live) (l : Live) → live_above avoid v ≡ Some l → v ≡ Some l
live_is avoid None l h = absurd (cc h)
live_is avoid (Some k) l h = by (binding_less avoid k.binding) h
  where
    by : (b : Bool) → cond b (Some k) None ≡ Some l → Some k ≡ Some l
    by true h = h
    by false h = absurd (cc h)

made_is : (avoid : Binding) (v : Option Made) (m : Made) → made_above avoid v ≡ Some m → v ≡ Some m
made_is avoid None m h = absurd (cc h)
made_is avoid (Some k) m h = by (not k.recorded && binding_less avoid k.binding) h
  where
    by : (b : Bool) → cond b (Some k) None ≡ Some m → Some k ≡ Some m
    by true h = h
    by false h = absurd (cc h)

-- and it is above
live_more : (avoid : Binding) (v : Option Live) (l : Live) → live_above avoid v ≡ Some l → binding_number avoid < binding_number l.binding
live_more avoid None l h = absurd (cc h)
live_more avoid (Some k) l h = by (binding_less avoid k.binding) refl h
  where
    by : (b : Bool) → binding_less avoid k.binding ≡ b → cond b (Some k) None ≡ Some l → binding_number avoid < binding_number l.binding
    by true less some = let one : k ≡ l = cc some in subst (λ (m : Live). binding_number avoid < binding_number m.binding) one
        (ltb-true (binding_number avoid) (binding_number k.binding) less)
    by false less some = absurd (cc some)

made_more : (avoid : Binding) (v : Option Made) (m : Made) → made_above avoid v ≡ Some m → binding_number avoid < binding_number m.binding
made_more avoid None m h = absurd (cc h)
made_more avoid (Some k) m h = by (not k.recorded && binding_less avoid k.binding) refl h
  where
    by : (b : Bool) → (not k.recorded && binding_less avoid k.binding) ≡ b → cond b (Some k) None ≡ Some m →
        binding_number avoid < binding_number m.binding
    by true both some = let one : k ≡ m = cc some in subst (λ (j : Made). binding_number avoid < binding_number j.binding) one
        (ltb-true (binding_number avoid) (binding_number k.binding) (and_parts (not k.recorded) (binding_less avoid k.binding) both).1)
    by false both some = absurd (cc some)

pub other_act : (act : Acts) → AreOne act → (u w : Uid) → u ≢ w → same (act u) (act w) ≡ false
other_act act one u w apart = by (same (act u) (act w)) refl
  where
    by : (b : Bool) → same (act u) (act w) ≡ b → b ≡ false
    by true e = absurd (apart (one u w (same_is (act u) (act w) e)))
    by false e = refl

module _ (act : Acts) (owner : Owners) (x : ℕ) (n : Place) (o : Named) (p : Path) (S : State) (one : AreOne act) (topped : IsTopped act p)
    (avoid : Binding) (before : binding_number avoid < S.naming.bound) (good : IsGood owner x n o) (sees : SeesNamed act x n o S) where
  abbrev inc : ℕ
  inc = n.inc

  abbrev count : ℕ
  count = n.count

  -- as many bindings
  abbrev at_count : ℕ → Place
  at_count k = record n { count = k }

  abbrev a : Act
  a = act (top_of p)

  -- what an answer leaves and shows
  abbrev Answers : ℕ → Named → Option BoundReply → State → Type 0
  Answers k v r T = SeesNamed act x (at_count k) v T × OnlyNaming S T × NobodyTold S T × ShowsBound act (top_of p) avoid T r

  nothing_else : OnlyNaming S S
  nothing_else = record { rest = refl; bindings = λ b l. refl; sent = λ m i. i }

  -- a lock conflicts
  refused : (holder : Uid) (m : Mode) → Goes S (Answers count o (Some (bound.Conflict holder m)))
  refused holder m = record { state = S; run = stay; holds = (sees, nothing_else, (refl, (refl, refl)), tt) }

  -- a recorded binding is of this incarnation
  present : (b : Binding) → o.recorded ≡ Some b → S.naming.first ≤ S.naming.recorded
  present b is = let c = (good.recorded b is).0 in let e = sees.recorded b is in let f = sees.first in omega (arith, c, e, f)

  -- ---- a live binding

  module _ (l : Live) (live : o.live ≡ Some l) (more : binding_number avoid < binding_number l.binding)
      (free : conflict_on x p mode.Read o ≡ None) (stores : List ℕ) where
    abbrev T : State
    T = next (BindLive a) S

    live_guard : Guard (BindLive a) S
    live_guard = (
      topped.top,
      present l.binding (good.live l live),
      clear_seen act (entry x) (top_path p) mode.Read o.rows S.naming.rows topped.along sees.rows free,
    )

    live_sees : SeesNamed act x n (locked x p mode.Read o) T
    live_sees = record {
      rows = raised_seen act (entry x) (top_path p) (tops_of p) mode.Read o.rows S.naming.rows sees.rows;
      bound = sees.bound;
      first = sees.first;
      recorded = sees.recorded;
      unrecorded = sees.unrecorded;
      known = λ k is. inr (sees.known k is);
      live = λ k is. let s = sees.live k is in record { server = s.server; named = s.named; incarnation = s.incarnation };
      made = λ t m is. let s = sees.made t m is in
          record { last = s.last; server = s.server; maker = s.maker; sent = inr s.sent; noted = λ h. inr (s.noted h) };
      asked = sees.asked;
      making = sees.making;
    }

    live_goes : Goes S (Answers count (locked x p mode.Read o) (Some (bound.Live l.binding l.server l.inc inc stores)))
    live_goes = record {
      state = T;
      run = step (BindLive a) live_guard stay;
      holds = (
        live_sees,
        record { rest = refl; bindings = λ b i. refl; sent = λ m i. inr i },
        (refl, (refl, refl)),
        (
          inl (ap (machine.Live a) (sym (sees.recorded l.binding (good.live l live)))),
          (let s = sees.live l live in s.server),
          (let s = sees.live l live in (s.named, s.incarnation)),
          more,
        ),
      );
    }

  -- ---- a binding that was made for the top before

  again_goes : (m : Made) (stores : List ℕ) → at_uid (top_of p) o.made ≡ Some m → binding_number avoid < binding_number m.binding →
      Goes S (Answers count (locked x p mode.Write o) (Some (bound.Make m.binding m.server inc stores)))
  again_goes m stores is more = record {
    state = S;
    run = stay;
    holds = (
      record {
        rows = asked_seen act (entry x) (top_path p) (tops_of p) mode.Write o.rows S.naming.rows sees.rows;
        bound = sees.bound;
        first = sees.first;
        recorded = sees.recorded;
        unrecorded = sees.unrecorded;
        known = sees.known;
        live = sees.live;
        made = sees.made;
        asked = sees.asked;
        making = sees.making;
      },
      nothing_else,
      (refl, (refl, refl)),
      (let s = sees.made (top_of p) m is in (s.sent, s.server, s.maker, more)),
    );
  }

  -- ---- a new binding

  module _ (free : conflict_on x p mode.Write o ≡ None) (server : ℕ) (stores : List ℕ) where
    abbrev b : ℕ
    b = binding_number (record { inc = inc; count = count + 1 })

    abbrev V : State
    V = next (BindNew a b server) S

    abbrev fresh : Made
    fresh = record { binding = record { inc = inc; count = count + 1 }; server = server; recorded = false }

    abbrev after : Named
    after = make (record { inc = inc; count = count + 1 }) server p (locked x p mode.Write o)

    old_binding : (k : ℕ) → k < b → V.binding k ≡ S.binding k
    old_binding k less = by (k == b) refl
      where
        by : (w : Bool) → (k == b) ≡ w →
            cond w (record { server = server; maker = a; named = false; incarnation = 0 }) (S.binding k) ≡ S.binding k
        by true e = let s = eqb-true k b e in absurd (omega (arith, less, s))
        by false e = refl

    counted : (c : Binding) → (c.inc ≡ inc) × (c.count ≤ count) → binding_at V c ≡ binding_at S c
    counted c of = old_binding (binding_number c) (let i = of.0 in let j = of.1 in omega (arith, i, j))

    new_made : SeesMade act (top_of p) fresh V
    new_made = record {
      last = act_here S.naming.made a b;
      server = ap (λ (c : machine.Binding). c.server)
          (at_here S.binding b (record { server = server; maker = a; named = false; incarnation = 0 }));
      maker = ap (λ (c : machine.Binding). c.maker)
          (at_here S.binding b (record { server = server; maker = a; named = false; incarnation = 0 }));
      sent = inl refl;
      noted = λ h. absurd (cc h);
    }

    old_made : (t : Uid) (m : Made) → t ≢ top_of p → at_uid t o.made ≡ Some m → SeesMade act t m V
    old_made t m apart is =
        let s = sees.made t m is in
        let e = counted m.binding (good.made t m is).1 in
        record {
          last = act_other S.naming.made a b (act t) (other_act act one t (top_of p) apart) ∙ s.last;
          server = ap (λ (c : machine.Binding). c.server) e ∙ s.server;
          maker = ap (λ (c : machine.Binding). c.maker) e ∙ s.maker;
          sent = inr s.sent;
          noted = λ h. inr (s.noted h);
        }

    new_sees : SeesNamed act x (at_count (count + 1)) after V
    new_sees = record {
      rows = raised_seen act (entry x) (top_path p) (tops_of p) mode.Write o.rows S.naming.rows sees.rows;
      bound = omega arith;
      first = sees.first;
      recorded = sees.recorded;
      unrecorded = sees.unrecorded;
      known = λ k is. inr (sees.known k is);
      live = λ l is. let s = sees.live l is in let e = counted l.binding (good.recorded l.binding (good.live l is)) in record {
        server = ap (λ (c : machine.Binding). c.server) e ∙ s.server;
        named = ap (λ (c : machine.Binding). c.named) e ∙ s.named;
        incarnation = ap (λ (c : machine.Binding). c.incarnation) e ∙ s.incarnation;
      };
      made = λ t m is. ⊎_elim
          (λ (own : (t ≡ top_of p) × (fresh ≡ m)).
          subst (λ (w : Uid). SeesMade act w m V) (sym own.0) (subst (λ (n : Made). SeesMade act (top_of p) n V) own.1 new_made))
          (λ (other : (t ≢ top_of p) × (at_uid t o.made ≡ Some m)). old_made t m other.0 other.1)
          (put_cases t (top_of p) fresh m o.made is);
      asked = sees.asked;
      making = λ t topped_so since untold. ⊎_elim
          (λ (own : t ≡ top_of p). (
            fresh,
            ap (λ (w : Uid). at_uid w after.made) own ∙ put_same (top_of p) fresh o.made,
            sym (ap (λ (w : Uid). V.naming.made (act w)) own ∙ act_here S.naming.made a b),
          ))
          (λ (apart : t ≢ top_of p). (let same_made = act_other S.naming.made a b (act t) (other_act act one t (top_of p) apart) in
          let h = sees.making t topped_so (subst (λ (j : ℕ). S.naming.first ≤ j) same_made since) untold in
          (h.0, put_other t (top_of p) fresh o.made apart ∙ h.1, h.2 ∙ sym same_made)))
          (uid_cases t (top_of p));
    }

    new_goes : Goes S (Answers (count + 1) after (Some (bound.Make (record { inc = inc; count = count + 1 }) server inc stores)))
    new_goes = record {
      state = V;
      run = step (BindNew a b server)
          (topped.top, sees.bound, clear_seen act (entry x) (top_path p) mode.Write o.rows S.naming.rows topped.along sees.rows free) stay;
      holds = (
        new_sees,
        record { rest = refl; bindings = λ k less. old_binding k (let m = sees.bound in omega (arith, less, m)); sent = λ m i. inr i },
        (refl, (refl, refl)),
        (new_made.sent, new_made.server, new_made.maker, (let m = sees.bound in omega (arith, m, before))),
      );
    }

  -- ---- an include

  module _ (free : conflict_on x p mode.Write o ≡ None) (stores : List ℕ) where
    abbrev W : State
    W = next (Grant a) S

    abbrev included : Named
    included = let q = locked x p mode.Write o in record q { asked = with_uid (top_of p) q.asked }

    write_asked : (t : Uid) → W.naming.asked (act t) ≡ true → (n.told t ≡ true) ⊎ (is_on (with_uid (top_of p) o.asked) t ≡ true)
    write_asked t h = ⊎_elim (λ (e : t ≡ top_of p). inr (with_on t (top_of p) o.asked (inl e)))
        (λ (apart : t ≢ top_of p). ⊎_elim (λ (k : n.told t ≡ true). inl k) (λ (k : is_on o.asked t ≡ true). inr (with_on t (top_of p)
        o.asked (inr k))) (sees.asked t (sym (act_other S.naming.asked a true (act t) (other_act act one t (top_of p) apart)) ∙ h)))
        (uid_cases t (top_of p))

    write_goes : Goes S (Answers count included (Some (bound.Write inc stores)))
    write_goes = record {
      state = W;
      run = step (Grant a) (topped.top, clear_seen act (entry x) (top_path p) mode.Write o.rows S.naming.rows topped.along sees.rows free)
          stay;
      holds = (
        record {
          rows = raised_seen act (entry x) (top_path p) (tops_of p) mode.Write o.rows S.naming.rows sees.rows;
          bound = sees.bound;
          first = sees.first;
          recorded = sees.recorded;
          unrecorded = sees.unrecorded;
          known = λ k is. inr (sees.known k is);
          live = λ k is. let s = sees.live k is in record { server = s.server; named = s.named; incarnation = s.incarnation };
          made = λ t m is. let s = sees.made t m is in
              record { last = s.last; server = s.server; maker = s.maker; sent = inr s.sent; noted = λ h. inr (s.noted h) };
          asked = write_asked;
          making = sees.making;
        },
        record { rest = refl; bindings = λ k less. refl; sent = λ m i. inr i },
        (refl, (refl, refl)),
        inl (ap (machine.Granted a) (sym sees.first)),
      );
    }

  -- ---- whichever it is

  abbrev c : Counted
  c = record { named = o; count = count }

  by_live : (e : Entry) (l : Live) → o.live ≡ Some l → binding_number avoid < binding_number l.binding → (r : Option Row) →
      conflict_on x p mode.Read o ≡ r → let s = live_asked inc x p e c l r in
      Goes S (Answers (let n = s.part in n.count) (let n = s.part in n.named) s.reply)
  by_live e l is more (Some r) found = refused (last_uid r.holder) r.mode
  by_live e l is more None free = live_goes l is more free e.stores

  by_made : (e : Entry) → conflict_on x p mode.Write o ≡ None → (v : Option Made) → made_above avoid (at_uid (top_of p) o.made) ≡ v →
      let s = bind_made inc x p e c v in Goes S (Answers (let n = s.part in n.count) (let n = s.part in n.named) s.reply)
  by_made e free (Some m) is =
      again_goes m e.stores (made_is avoid (at_uid (top_of p) o.made) m is) (made_more avoid (at_uid (top_of p) o.made) m is)
  by_made e free None is = new_goes free (next_server o.turn e.servers) e.stores

  by_make : (e : Entry) (r : Option Row) → conflict_on x p mode.Write o ≡ r → let s = make_asked inc x p avoid e c r in
      Goes S (Answers (let n = s.part in n.count) (let n = s.part in n.named) s.reply)
  by_make e (Some r) found = refused (last_uid r.holder) r.mode
  by_make e None free = by_made e free (made_above avoid (at_uid (top_of p) o.made)) refl

  by_call : (e : Entry) (v : Option Live) → live_above avoid o.live ≡ v → let s = bind_call inc x p avoid e c v in
      Goes S (Answers (let n = s.part in n.count) (let n = s.part in n.named) s.reply)
  by_call e (Some l) is = by_live e l (live_is avoid o.live l is) (live_more avoid o.live l is) (conflict_on x p mode.Read o) refl
  by_call e None is = by_make e (conflict_on x p mode.Write o) refl

  by_include : (e : Entry) (r : Option Row) → conflict_on x p mode.Write o ≡ r → let s = include_asked inc x p e c r in
      Goes S (Answers (let n = s.part in n.count) (let n = s.part in n.named) s.reply)
  by_include e (Some r) found = refused (last_uid r.holder) r.mode
  by_include e None free = write_goes free e.stores

  pub bind_goes : (include : Bool) (e : Entry) → let s = bind_named inc x p include avoid e c in
      Goes S (Answers (let n = s.part in n.count) (let n = s.part in n.named) s.reply)
  bind_goes true e = by_include e (conflict_on x p mode.Write o) refl
  bind_goes false e = by_call e (live_above avoid o.live) refl

pub binds_are_seen : BindsAreSeen
binds_are_seen act owner x n o p include avoid e S one topped before good sees =
    bind_goes act owner x n o p S one topped avoid before good sees include e
