-- What is kept as long as few labels were given; in each world that is reached so few are. And what is kept where more is known.
use Rattle.arj_law_parts.proofs.Words
use Words.{◌≡◌, ◌≤◌, ◌+◌, ℕ, suc, List, [], ◌∷◌, Some, arith, length, Header, again_all, begin_action, Disk, Do, Effect, Say, Send, worked}
use Words.{tick_outs, Parts, with_coord, acts, parent_of, parts_in, restart_outs, World, Seen, is_serial, most_labels}
use Rattle.arj_law_disk_view.proofs.Terms
use Terms.{Office, Holds, given, posted, said, Up, Walks, IsReached, KnowsFew, KeepsGiven, Kinds, HasFewLabels, KnowsScript, KeepsPart}
use Terms.machine
use Rattle.arj_law_runs.proofs.{bindings.Doings.one_more, calls.Reaching.reached_holds, calls.WholeRuns.WhileFew, calls.WholeRuns.few_go}

-- ---- while few labels were given

module _ (P : Seen → Type 0) where
  abbrev While : Seen → Type 0
  While M = HasFewLabels M → P M

  while_walk : (e k : ℕ) (outs : List Effect) (v : Parts) (d : Disk) (M : Seen) → (HasFewLabels M → Walks P e k outs (Up P k v) d M) →
      Walks While e k outs (Up While k v) d M
  while_walk e k [] v d M walk = walk
  while_walk e k (Do w ∷ es) v d M walk = ((λ how s. (walk s).0 how), while_walk e k es v (worked w d) M (λ s. (walk s).1))
  while_walk e k (Say b ∷ es) v d M walk = while_walk e k es v d (said e (b ∷ []) M) walk
  while_walk e k (Send to m ∷ es) v d M walk =
      λ more quiet. while_walk e k es v d (said e more (posted (record { from = k; to = to; message = m }) M)) (λ s. walk s more quiet)

  while_labels : (hd : Header) (G : Seen → Type 0) → KeepsGiven hd (λ M. G M × HasFewLabels M) P → KeepsGiven hd G While
  while_labels hd G kept = record {
    quiet = λ e bs M quiet g p s. kept.quiet e bs M quiet (g, s) (p s);
    stop = λ e k d live M g p s. kept.stop e k d live M (g, s) (p s);
    message = λ e k d t v from m outs M g p there meant is.
        while_walk e k outs v d M (λ s. kept.message e k d t v from m outs M (g, s) (p s) there meant is);
    act = λ e k d t i M is none g p. let did = acts i d.intents t.coord in
        while_walk e k did.outs (with_coord t did.part) d M (λ s. kept.act e k d t i M is none (g, s) (p s));
    begin = λ e k d t l how parent M new may none g p.
        let did = begin_action l how parent (parent_of parent t.coord) t.coord in
        let N = given l (record { node = k; serial = is_serial how }) M in
        while_walk e k did.outs (with_coord t did.part) d N (λ s. let few = fewer (length M.labels) (length N.labels)
        (one_more l (record { node = k; serial = is_serial how }) M.labels new) s in
        kept.begin e k d t l how parent M new may none (g, few) (p few));
    tick = λ e k d t M g p. while_walk e k (tick_outs (record { number = k; disk = d; live = Some t }) t)
        (with_coord t (again_all t.coord.doings t.coord).part) d M (λ s. kept.tick e k d t M (g, s) (p s));
    restart = λ e k d M g p.
        while_walk e k (restart_outs hd k (d.inc + 1) d) (parts_in k (d.inc + 1) d) d M (λ s. kept.restart e k d M (g, s) (p s));
    first = λ st formed s. kept.first st formed;
  }
    where
      fewer : (a b : ℕ) → b ≡ suc a → b ≤ most_labels → a ≤ most_labels
      fewer a b is le = omega (arith, is, le)

-- ---- in a world that is reached

-- what is kept where so much is known holds there
pub reached_script : (hd : Header) (P : Seen → Type 0) → KeepsGiven hd KnowsScript P → (w : World) → IsReached hd w →
    Holds hd (λ M. KnowsFew M × P M) w
reached_script hd P kept w reached =
    let r = reached_holds hd w reached (WhileFew (While P)) (few_go hd (While P) (while_labels P hd KnowsFew kept)) in
    let h = r.holds.1 reached.few in
    record { sent = r.sent; stands = r.stands; holds = ((reached.few, h.0), h.1 reached.labels) }

-- ---- where more is known

pub part_more : (hd : Header) (x : ℕ) (R S : machine.World → Seen → Type 0) (P : Kinds → Office → Seen → Type 0) →
    ((W : machine.World) (M : Seen) → S W M → R W M) → KeepsPart hd x R P → KeepsPart hd x S P
part_more hd x R S P less parts = record {
  quiet = λ tops e bs M A walk quiet r. parts.quiet tops e bs M A walk quiet (less _ M r);
  stop = λ tops e k d live M A walk r. parts.stop tops e k d live M A walk (less _ _ r);
  message = λ tops e k d t v from m outs M A walk knows r. parts.message tops e k d t v from m outs M A walk knows (less _ _ r);
  act = λ tops e k d t i M A walk knows r. parts.act tops e k d t i M A walk knows (less _ _ r);
  begin = λ tops e k d t l how parent M A walk knows r. parts.begin tops e k d t l how parent M A walk knows (less _ _ r);
  tick = λ tops e k d t M A walk knows r. parts.tick tops e k d t M A walk knows (less _ _ r);
  restart = λ tops e k d M A walk r. parts.restart tops e k d M A walk (less _ _ r);
  first = parts.first;
}
