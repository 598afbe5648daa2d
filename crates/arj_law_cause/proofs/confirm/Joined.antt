-- What is known of an object's disk machine at each moment: naming's memory and its pair of entries are seen in it, requests claim what
-- they say, and an entry of which nothing is prepared is the journal's.
use Rattle.arj_law_parts.proofs.Words
use Words.body
use Words.{◌≤◌, ◌++◌, [], ◌∷◌, length, arith, Body, ◌≡◌, ℕ, List, true, is_some, subst, ap, sym, ⊤, Header, Post, Seen, Line, World}
use Rattle.arj_law_serial.proofs.Terms
use Terms.{first_values, object_line, HeaderFits, Kinds, Office, KeepsPart, part_more, State, Fixed, OpsFit, IsReached, IsCleanIn}
use Terms.{SeesHeard}
use Rattle.arj_law_disk_view.proofs.running.ListedRuns.{IsSeenBegun}
use Rattle.arj_law_parts.specs.moves.Keeps.{Holds}
use Rattle.arj_law_parts.specs.moves.Seen.{Within, with_sent}
pub use Rattle.arj_law_cause.specs.rows.Early.{IsEarly}
use Rattle.arj_law_serial.proofs.joint
use joint.{Clean.AreJoined, Clean.clean_of, Clean.decides_in, Clean.held_in, Clean.lock_tied, Clean.reached_both, Fits.fits_before}
use joint.{JoinKeeps.WithTurns, JoinKeeps.turns_part, Joining.WithLocks}
use joint.JoinedParts.{Base, Carried, Early, Whole, base, locked}
use joint.LightKeeps.{WithLights, lights_part}
use joint.OrderedRuns.{IsOrderedBeside, ordered_beside}
use Rattle.arj_law_runs.proofs.calls.WholeRuns.{few_before}
use Rattle.arj_law_runs.proofs.journal.Owners.{acts_more}
use Rattle.arj_model.specs.Actions.{Act, acts, acts_after, acts_from}
use Rattle.arj_law_cause.proofs.confirm.Labels.{reached_world, world_of}
use Rattle.arj_law_cause.proofs.confirm.Reached.{IsOfWorld, Reached, sees_at, within_of, world_at}

-- ---- a world

module _ (hd : Header) (x : ℕ) (form : HeaderFits hd) (there : is_some (object_line hd x) ≡ true) (w : World) (reached : IsReached hd w)
    (fit : OpsFit x w.lines) where
  Nothing : Fixed → State → Seen → Type 0
  Nothing f S M = ⊤

  abbrev Joined : Kinds → Office → Seen → Type 0
  Joined tops A M = WithLights x (WithTurns x (WithLocks (first_values hd) x (Whole x) (λ f S M. ⊤) (Carried hd x))) tops A M

  paired : KeepsPart hd x (Early hd x) (WithLocks (first_values hd) x (Whole x) (λ f S M. ⊤) (Carried hd x))
  paired = part_more hd x (λ W M. Early hd x W M × ⊤) (Early hd x) (WithLocks (first_values hd) x (Whole x) (λ f S M. ⊤) (Carried hd x))
      (λ W M q. (q, tt)) (locked hd x form there (λ M. ⊤) (λ f S M. ⊤) (λ M N l f S T run past. tt) (λ f S st formed. tt))

  part : KeepsPart hd x (Early hd x) (λ tops A M.
      WithLights x (WithTurns x (WithLocks (first_values hd) x (Whole x) (λ f S M. ⊤) (Carried hd x))) tops A M)
  part = lights_part hd x (Early hd x) (WithTurns x (WithLocks (first_values hd) x (Whole x) (λ f S M. ⊤) (Carried hd x)))
      (λ W M q. q.0.0.0.0.1) (λ tops A M p. p.0.0.0.0.0.0.0.0) (λ tops A M p. p.1)
      (turns_part hd x (Early hd x) (WithLocks (first_values hd) x (Whole x) (λ f S M. ⊤) (Carried hd x)) (λ W M q. q.0.0.0.0.1)
      (λ tops A M p. p.0.0.0.0.0.0.0) (λ tops A M p. p.0.0.0.0.0.0.1) paired)

  pub beside : Holds hd (IsOrderedBeside (Base hd x) (λ tops A M.
      WithLights x (WithTurns x (WithLocks (first_values hd) x (Whole x) (λ f S M. ⊤) (Carried hd x))) tops A M) hd x) w
  beside = ordered_beside hd x (OpsFit x) (fits_before x) (Base hd x) (λ tops A M.
      WithLights x (WithTurns x (WithLocks (first_values hd) x (Whole x) (λ f S M. ⊤) (Carried hd x))) tops A M) form there
      (base hd x form there (λ M. ⊤) (λ f S M. ⊤) (λ M N l f S T run past. tt) (λ f S st formed. tt)) part w reached fit

-- ---- a moment

-- lines make no fewer actions
grow_from : (us : List Act) (ls : List Line) → length us ≤ length (acts_from us ls)
grow_from us [] = omega arith
grow_from us (l ∷ ls) = more (one l.body) (grow_from (acts_after us l.body) ls)
  where
    more : {a b c : ℕ} → a ≤ b → b ≤ c → a ≤ c
    more low high = omega (arith, low, high)

    one : (b : Body) → length us ≤ length (acts_after us b)
    one (body.Began m k u p) = omega arith
    one b = omega arith

-- what comes before early lines is early
pub early_before : (ls ks : List Line) → IsEarly (ls ++ ks) → IsEarly ls
early_before ls ks early = record {
  few = few_before ls ks early.few;
  short = fewer (acts_grow ls ks) early.short;
  fit = λ x. fits_before x ls ks (early.fit x);
}
  where
    fewer : {a b c : ℕ} → a ≤ b → b ≤ c → a ≤ c
    fewer low high = omega (arith, low, high)

    acts_grow : (xs ys : List Line) → length (acts xs) ≤ length (acts (xs ++ ys))
    acts_grow xs ys = subst (λ us. length (acts xs) ≤ length us) (sym (acts_more [] xs ys)) (grow_from (acts xs) ys)

-- the object's disk machine is seen, with what is known of answers and requests; and its entry is clean
pub record IsSeenSo (hd : Header) (x : ℕ) (S : Seen) : Type 0 where
  pub sent : List Post
  pub within : Within S.sent sent
  pub tops : Kinds
  pub office : Office
  pub seen : IsSeenBegun x tops office (with_sent sent S)
  pub heard : SeesHeard x tops office (with_sent sent S)
  pub clean : IsCleanIn hd S.lines x S

pub seen_so : (hd : Header) (x : ℕ) → HeaderFits hd → is_some (object_line hd x) ≡ true → (S : Seen) → Reached hd S → IsEarly S.lines →
    IsSeenSo hd x S
seen_so hd x form there S r early = record {
  sent = sent;
  within = within_of hd S h sent holds.stands;
  tops = holds.holds.1;
  office = holds.holds.2;
  seen = subst (IsSeenBegun x holds.holds.1 holds.holds.2) (sees_at hd S h sent) holds.holds.6;
  heard = subst (SeesHeard x holds.holds.1 holds.holds.2) (sees_at hd S h sent)
      (let p = holds.holds.4 in p.0.0.0.0.0.0.0.0.0);
  clean = subst (λ (Z : Seen). IsCleanIn hd Z.lines x Z) (sees_at hd S h S.sent)
      (let c = clean_of hd w reached.keeping form (lock_tied hd w reached.keeping joined) (held_in hd w reached.keeping joined)
      (decides_in hd w reached.keeping joined) x there in
      record { names = c.names; stores = c.stores });
}
  where
    h : IsOfWorld hd S
    h = world_of hd S r

    w : World
    w = world_at hd S (world_of hd S r)

    reached : IsReached hd (world_at hd S (world_of hd S r))
    reached = reached_world hd S r early.few early.short

    lines : (world_at hd S (world_of hd S r)).lines ≡ S.lines
    lines = ap (λ (Z : Seen). Z.lines) (sees_at hd S h S.sent)

    fits : (y : ℕ) → OpsFit y (world_at hd S (world_of hd S r)).lines
    fits y = subst (OpsFit y) (sym lines) (early.fit y)

    joined : AreJoined hd (world_at hd S (world_of hd S r))
    joined = reached_both hd form w reached fits

    holds : Holds hd (IsOrderedBeside (Base hd x) (λ tops A M.
        WithLights x (WithTurns x (WithLocks (first_values hd) x (Whole x) (λ f S M. ⊤) (Carried hd x))) tops A M) hd x)
        (world_at hd S (world_of hd S r))
    holds = beside hd x form there (world_at hd S (world_of hd S r)) reached (fits x)

    sent : List Post
    sent = holds.sent
