-- What a Bind makes of an object at naming: a new binding, for the server whose turn it is, under the write lock; or nothing but a lock.
use Rattle.arj_law_parts.proofs.Words
use Words.{⊤, ◌≡◌, ◌∙◌, ◌⊎◌, ◌&&◌, not, ℕ, Bool, true, false, cond, List, [], ◌∷◌, Option, Some, None, refl, sym, ap, inl, inr, Binding}
use Words.{BoundReply}
use Words.{Entry, Path, Row, Mode, entry, entry_row, last_uid, rows_asked, top_of, top_path, is_granted, Say, Served, Counted, Live, Made}
use Words.{Named}
use Words.{bind_call}
use Words.{bind_made, bind_named, conflict_on, include_asked, live_above, live_asked, lock_lines, made_above, make_asked, next_server}
use Words.{at_uid, binding_less}
use Words.body
use Words.bound
use Words.mode
use Rattle.arj_protocol.specs.Named.{bound_new}
use Rattle.arj_law_cause.proofs.bindings.Nodes.{ArePlain}

pub locks_plain : (x : ℕ) (p : Path) (m : Mode) (o : Named) → ArePlain (lock_lines x p m o)
locks_plain x p m o = by (is_granted (entry x) (last_uid (top_path p)) m o.rows)
  where
    by : (b : Bool) → ArePlain (cond b [] (Say (body.Granted 1 (last_uid (top_path p)) (entry x) m) ∷ []))
    by true = refl
    by false = refl

-- the rows are those that were, or with a lock on the entry that was asked for
abbrev pub IsAskedFor : ℕ → Path → List Row → List Row → Type 0
IsAskedFor x p old new = (new ≡ old) ⊎ ((m : Mode) × (new ≡ rows_asked (entry_row x p m) old))

-- an answer that makes a binding names the one that was made for the top, and that isn't recorded
abbrev pub MakesAgain : Path → Named → Option BoundReply → Type 0
MakesAgain p o (Some (bound.Make b server g stores)) =
    (m : Made) × (at_uid (top_of p) o.made ≡ Some m) × (m.recorded ≡ false) × (m.binding ≡ b)
MakesAgain p o _ = ⊤

-- nothing of its bindings is new
pub record IsLight (x : ℕ) (p : Path) (c : Counted) (r : Served Counted BoundReply) : Type 0 where
  pub count : (let v = r.part in v.count) ≡ c.count
  pub live : (let v = r.part in (let o = v.named in o.live)) ≡ (let o = c.named in o.live)
  pub made : (let v = r.part in (let o = v.named in o.made)) ≡ (let o = c.named in o.made)
  pub turn : (let v = r.part in (let o = v.named in o.turn)) ≡ (let o = c.named in o.turn)
  pub plain : ArePlain r.outs
  pub rows : IsAskedFor x p (let o = c.named in o.rows) (let v = r.part in (let o = v.named in o.rows))
  pub again : MakesAgain p c.named r.reply

above_is : (avoid : Binding) (q : Option Made) (m : Made) → made_above avoid q ≡ Some m → (q ≡ Some m) × (m.recorded ≡ false)
above_is avoid None m is = let no_way : ◌≡◌ {A = Option Made} None (Some m) = is in absurd (cc no_way)
above_is avoid (Some k) m is = by k.recorded refl (binding_less avoid k.binding) is
  where
    by : (r : Bool) → k.recorded ≡ r → (b : Bool) → cond (not r && b) (Some k) None ≡ Some m → (Some k ≡ Some m) × (m.recorded ≡ false)
    by false fresh true same = let one : k ≡ m = cc same in (same, ap (λ (z : Made). z.recorded) (sym one) ∙ fresh)
    by false fresh false same = let no_way : ◌≡◌ {A = Option Made} None (Some m) = same in absurd (cc no_way)
    by true stale b same = let no_way : ◌≡◌ {A = Option Made} None (Some m) = same in absurd (cc no_way)

-- what makes a binding, or lets an include go on, grants the lock in this incarnation
abbrev pub GrantsNow : ℕ → Option BoundReply → Type 0
GrantsNow inc (Some (bound.Make b server g stores)) = g ≡ inc
GrantsNow inc (Some (bound.Write g stores)) = g ≡ inc
GrantsNow inc r = ⊤

module _ (inc x : ℕ) (p : Path) (e : Entry) (c : Counted) where
  abbrev pub Shape : Served Counted BoundReply → Type 0
  Shape r = IsLight x p c r ⊎ (r ≡ bound_new inc x p e c (next_server (let o = c.named in o.turn) e.servers))

  refused : (r : Row) → Shape (Rattle.arj_protocol.specs.Named.refused_lock c r)
  refused r = inl (record { count = refl; live = refl; made = refl; turn = refl; plain = refl; rows = inl refl; again = tt })

  live_shape : (l : Live) (r : Option Row) → Shape (live_asked inc x p e c l r)
  live_shape l (Some r) = refused r
  live_shape l None = inl (record {
    count = refl;
    live = refl;
    made = refl;
    turn = refl;
    plain = locks_plain x p mode.Read c.named;
    rows = inr (mode.Read, refl);
    again = tt;
  })

  made_shape : (q : Option Made) → ((m : Made) → q ≡ Some m → (at_uid (top_of p) (let o = c.named in o.made) ≡ Some m)
      × (m.recorded ≡ false)) →
      Shape (bind_made inc x p e c q)
  made_shape (Some m) was = inl (record {
    count = refl;
    live = refl;
    made = refl;
    turn = refl;
    plain = locks_plain x p mode.Write c.named;
    rows = inr (mode.Write, refl);
    again = (m, (was m refl).0, (was m refl).1, refl);
  })
  made_shape None was = inr refl

  asked_shape : (avoid : Binding) (r : Option Row) → Shape (make_asked inc x p avoid e c r)
  asked_shape avoid (Some r) = refused r
  asked_shape avoid None = made_shape (made_above avoid (at_uid (top_of p) c.named.made))
      (λ m is. above_is avoid (at_uid (top_of p) c.named.made) m is)

  call_shape : (avoid : Binding) (l : Option Live) → Shape (bind_call inc x p avoid e c l)
  call_shape avoid (Some l) = live_shape l (conflict_on x p mode.Read c.named)
  call_shape avoid None = asked_shape avoid (conflict_on x p mode.Write c.named)

  include_shape : (r : Option Row) → Shape (include_asked inc x p e c r)
  include_shape (Some r) = refused r
  include_shape None = inl (record {
    count = refl;
    live = refl;
    made = refl;
    turn = refl;
    plain = locks_plain x p mode.Write c.named;
    rows = inr (mode.Write, refl);
    again = tt;
  })

  pub bind_grants : (include : Bool) (avoid : Binding) → GrantsNow inc (bind_named inc x p include avoid e c).reply
  bind_grants true avoid = by (conflict_on x p mode.Write c.named)
    where
      by : (r : Option Row) → GrantsNow inc (include_asked inc x p e c r).reply
      by None = refl
      by (Some r) = tt
  bind_grants false avoid = call (live_above avoid c.named.live)
    where
      live : (l : Live) (r : Option Row) → GrantsNow inc (live_asked inc x p e c l r).reply
      live l None = tt
      live l (Some r) = tt

      made : (q : Option Made) → GrantsNow inc (bind_made inc x p e c q).reply
      made None = refl
      made (Some m) = refl

      asked : (r : Option Row) → GrantsNow inc (make_asked inc x p avoid e c r).reply
      asked None = made (made_above avoid (at_uid (top_of p) c.named.made))
      asked (Some r) = tt

      call : (l : Option Live) → GrantsNow inc (bind_call inc x p avoid e c l).reply
      call (Some l) = live l (conflict_on x p mode.Read c.named)
      call None = asked (conflict_on x p mode.Write c.named)

  pub bind_shape : (include : Bool) (avoid : Binding) → Shape (bind_named inc x p include avoid e c)
  bind_shape true avoid = include_shape (conflict_on x p mode.Write c.named)
  bind_shape false avoid = call_shape avoid (live_above avoid c.named.live)
