-- What handlers keep where something else holds before them.
use Rattle.arj_law_parts.proofs.Words
use Words.{◌≡◌, ℕ, ◌+◌, List, [], ◌∷◌, ◌++◌, true, Option, Some, None, Body, Header, Kind, Label, Line, Message, again_all, begin_action}
use Words.{Disk, Do, Effect, Say, Send, worked, tick_outs, Parts, Took, handle, is_meant, with_coord, Input, acts, begin_refusal, parent_of}
use Words.{parts_in, refusal_up, restart_outs, numbered, Seen, is_serial}
use Words.body
use Rattle.arj_law_runs.proofs.Terms
use Terms.{DidKeeps, IsAtStarts, Keeps, MayGive, is_act, label_at, AreQuiet, In, at, down, given, posted, said, up, Up, Walks, halted}
use Terms.{walks_both}

-- It is kept by each handler before which the other holds, and it holds at first.
pub record KeepsGiven (hd : Header) (G P : Seen → Type 0) : Type 0 where
  pub quiet : (e : ℕ) (bs : List Body) (M : Seen) → AreQuiet bs → G M → P M → P (said e bs M)
  pub stop : (e k : ℕ) (d : Disk) (live : Option Parts) (M : Seen) → G (at k d live M) → P (at k d live M) → P (halted e k d M)
  pub message : (e k : ℕ) (d : Disk) (t v : Parts) (from : ℕ) (m : Message) (outs : List Effect) (M : Seen)
      → G (up k d t M) → P (up k d t M) → In (record { from = from; to = k; message = m }) M.sent → is_meant t m ≡ true →
      handle k d t from m ≡ Took v outs → Walks P e k outs (Up P k v) d M
  pub act : (e k : ℕ) (d : Disk) (t : Parts) (i : Input) (M : Seen) → is_act i ≡ true → refusal_up hd i t.coord ≡ None
      → G (up k d t M) → P (up k d t M) → DidKeeps P e k d t (acts i d.intents t.coord) M
  pub begin : (e k : ℕ) (d : Disk) (t : Parts) (l : Label) (how : Kind) (parent : Option Label) (M : Seen)
      → label_at l M.labels ≡ None → MayGive M.labels k how parent → begin_refusal how t.coord parent ≡ None
      → G (up k d t M) → P (up k d t M) → DidKeeps P e k d t (begin_action l how parent (parent_of parent t.coord) t.coord)
      (given l (record { node = k; serial = is_serial how }) M)
  pub tick : (e k : ℕ) (d : Disk) (t : Parts) (M : Seen) → G (up k d t M) → P (up k d t M)
      → Walks P e k (tick_outs (record { number = k; disk = d; live = Some t }) t)
      (Up P k (with_coord t (again_all t.coord.doings t.coord).part)) d M
  pub restart : (e k : ℕ) (d : Disk) (M : Seen) → G (down k d M) → P (down k d M) →
      Walks P e k (restart_outs hd k (d.inc + 1) d) (Up P k (parts_in k (d.inc + 1) d)) d M
  pub first : IsAtStarts hd P

-- ---- two of them

both_walk : (P Q : Seen → Type 0) (e k : ℕ) (outs : List Effect) (v : Parts) (d : Disk) (M : Seen) → Walks P e k outs (Up P k v) d M →
    Walks Q e k outs (Up Q k v) d M → Walks (λ N. P N × Q N) e k outs (Up (λ N. P N × Q N) k v) d M
both_walk P Q e k outs v d M a b = walks_both P Q e k outs (Up P k v) (Up Q k v) d M a b

-- each is kept where the other holds
pub both_given : (hd : Header) (G P Q : Seen → Type 0) → KeepsGiven hd (λ M. G M × Q M) P → KeepsGiven hd (λ M. G M × P M) Q →
    KeepsGiven hd G (λ M. P M × Q M)
both_given hd G P Q one two = record {
  quiet = λ e bs M quiet g p. (one.quiet e bs M quiet (g, p.1) p.0, two.quiet e bs M quiet (g, p.0) p.1);
  stop = λ e k d live M g p. (one.stop e k d live M (g, p.1) p.0, two.stop e k d live M (g, p.0) p.1);
  message = λ e k d t v from m outs M g p there meant is. both_walk P Q e k outs v d M
      (one.message e k d t v from m outs M (g, p.1) p.0 there meant is) (two.message e k d t v from m outs M (g, p.0) p.1 there meant is);
  act = λ e k d t i M is none g p. let did = acts i d.intents t.coord in both_walk P Q e k did.outs (with_coord t did.part) d M
      (one.act e k d t i M is none (g, p.1) p.0) (two.act e k d t i M is none (g, p.0) p.1);
  begin = λ e k d t l how parent M new may none g p.
      let did = begin_action l how parent (parent_of parent t.coord) t.coord in
      both_walk P Q e k did.outs (with_coord t did.part) d (given l (record { node = k; serial = is_serial how }) M)
      (one.begin e k d t l how parent M new may none (g, p.1) p.0) (two.begin e k d t l how parent M new may none (g, p.0) p.1);
  tick = λ e k d t M g p. both_walk P Q e k (tick_outs (record { number = k; disk = d; live = Some t }) t)
      (with_coord t (again_all t.coord.doings t.coord).part) d M (one.tick e k d t M (g, p.1) p.0) (two.tick e k d t M (g, p.0) p.1);
  restart = λ e k d M g p. both_walk P Q e k (restart_outs hd k (d.inc + 1) d) (parts_in k (d.inc + 1) d) d M
      (one.restart e k d M (g, p.1) p.0) (two.restart e k d M (g, p.0) p.1);
  first = λ st formed. (one.first st formed, two.first st formed);
}

-- with what is kept everywhere
pub kept_both : (hd : Header) (G P : Seen → Type 0) → Keeps hd G → KeepsGiven hd G P → Keeps hd (λ M. G M × P M)
kept_both hd G P one two = record {
  quiet = λ e bs M quiet p. (one.quiet e bs M quiet p.0, two.quiet e bs M quiet p.0 p.1);
  stop = λ e k d live M p. (one.stop e k d live M p.0, two.stop e k d live M p.0 p.1);
  message = λ e k d t v from m outs M p there meant is. both_walk G P e k outs v d M
      (one.message e k d t v from m outs M p.0 there meant is) (two.message e k d t v from m outs M p.0 p.1 there meant is);
  act = λ e k d t i M is none p. let did = acts i d.intents t.coord in
      both_walk G P e k did.outs (with_coord t did.part) d M (one.act e k d t i M is none p.0) (two.act e k d t i M is none p.0 p.1);
  begin = λ e k d t l how parent M new may none p.
      let did = begin_action l how parent (parent_of parent t.coord) t.coord in
      both_walk G P e k did.outs (with_coord t did.part) d (given l (record { node = k; serial = is_serial how }) M)
      (one.begin e k d t l how parent M new may none p.0) (two.begin e k d t l how parent M new may none p.0 p.1);
  tick = λ e k d t M p. both_walk G P e k (tick_outs (record { number = k; disk = d; live = Some t }) t)
      (with_coord t (again_all t.coord.doings t.coord).part) d M (one.tick e k d t M p.0) (two.tick e k d t M p.0 p.1);
  restart = λ e k d M p. both_walk G P e k (restart_outs hd k (d.inc + 1) d) (parts_in k (d.inc + 1) d) d M (one.restart e k d M p.0)
      (two.restart e k d M p.0 p.1);
  first = λ st formed. (one.first st formed, two.first st formed);
}

-- what is kept everywhere is kept there
pub keeps_given : (hd : Header) (G P : Seen → Type 0) → Keeps hd P → KeepsGiven hd G P
keeps_given hd G P one = record {
  quiet = λ e bs M quiet g p. one.quiet e bs M quiet p;
  stop = λ e k d live M g p. one.stop e k d live M p;
  message = λ e k d t v from m outs M g p there meant is. one.message e k d t v from m outs M p there meant is;
  act = λ e k d t i M is none g p. one.act e k d t i M is none p;
  begin = λ e k d t l how parent M new may none g p. one.begin e k d t l how parent M new may none p;
  tick = λ e k d t M g p. one.tick e k d t M p;
  restart = λ e k d M g p. one.restart e k d M p;
  first = one.first;
}

-- where more holds, too
pub given_more : (hd : Header) (G H P : Seen → Type 0) → ((M : Seen) → H M → G M) → KeepsGiven hd G P → KeepsGiven hd H P
given_more hd G H P less one = record {
  quiet = λ e bs M quiet h p. one.quiet e bs M quiet (less M h) p;
  stop = λ e k d live M h p. one.stop e k d live M (less (at k d live M) h) p;
  message = λ e k d t v from m outs M h p there meant is. one.message e k d t v from m outs M (less (up k d t M) h) p there meant is;
  act = λ e k d t i M is none h p. one.act e k d t i M is none (less (up k d t M) h) p;
  begin = λ e k d t l how parent M new may none h p. one.begin e k d t l how parent M new may none (less (up k d t M) h) p;
  tick = λ e k d t M h p. one.tick e k d t M (less (up k d t M) h) p;
  restart = λ e k d M h p. one.restart e k d M (less (down k d M) h) p;
  first = one.first;
}

-- ---- as long as the journal is so

module _ (S : List Line → Type 0) (before : (lines more : List Line) → S (lines ++ more) → S lines) (P : Seen → Type 0) where
  abbrev While : Seen → Type 0
  While M = S M.lines → P M

  pub while_walk : (e k : ℕ) (outs : List Effect) (v : Parts) (d : Disk) (M : Seen) → (S M.lines → Walks P e k outs (Up P k v) d M) →
      Walks While e k outs (Up While k v) d M
  while_walk e k [] v d M walk = walk
  while_walk e k (Do w ∷ es) v d M walk =
      (λ how s. (walk (before M.lines (numbered e (body.Halted k ∷ [])) s)).0 how, while_walk e k es v (worked w d) M (λ s. (walk s).1))
  while_walk e k (Say b ∷ es) v d M walk = while_walk e k es v d (said e (b ∷ []) M) (λ s. walk (before M.lines (numbered e (b ∷ [])) s))
  while_walk e k (Send to m ∷ es) v d M walk = λ more quiet. while_walk e k es v d
      (said e more (posted (record { from = k; to = to; message = m }) M)) (λ s. walk (before M.lines (numbered e more) s) more quiet)

  -- what is kept where the journal is so is kept as long as it is so
  pub while_given : (hd : Header) (G : Seen → Type 0) → KeepsGiven hd (λ M. G M × S M.lines) P → KeepsGiven hd G (λ M. S M.lines → P M)
  while_given hd G kept = record {
    quiet = λ e bs M quiet g p s. let r = before M.lines (numbered e bs) s in kept.quiet e bs M quiet (g, r) (p r);
    stop = λ e k d live M g p s. let r = before M.lines (numbered e (body.Halted k ∷ [])) s in kept.stop e k d live M (g, r) (p r);
    message = λ e k d t v from m outs M g p there meant is.
        while_walk e k outs v d M (λ s. kept.message e k d t v from m outs M (g, s) (p s) there meant is);
    act = λ e k d t i M is none g p. let did = acts i d.intents t.coord in
        while_walk e k did.outs (with_coord t did.part) d M (λ s. kept.act e k d t i M is none (g, s) (p s));
    begin = λ e k d t l how parent M new may none g p.
        let did = begin_action l how parent (parent_of parent t.coord) t.coord in
        while_walk e k did.outs (with_coord t did.part) d (given l (record { node = k; serial = is_serial how }) M)
        (λ s. kept.begin e k d t l how parent M new may none (g, s) (p s));
    tick = λ e k d t M g p. while_walk e k (tick_outs (record { number = k; disk = d; live = Some t }) t)
        (with_coord t (again_all t.coord.doings t.coord).part) d M (λ s. kept.tick e k d t M (g, s) (p s));
    restart = λ e k d M g p.
        while_walk e k (restart_outs hd k (d.inc + 1) d) (parts_in k (d.inc + 1) d) d M (λ s. kept.restart e k d M (g, s) (p s));
    first = λ st formed s. kept.first st formed;
  }
