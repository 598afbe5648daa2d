-- Relations that are kept together, for the actions that were begun; and what a walk comes to at its end.
use Rattle.arj_law_parts.proofs.Words
use Words.{◌+◌, ℕ, List, [], ◌∷◌, Some, refl, Header, again_all, begin_action, Disk, Do, Effect, Say, Send, worked, tick_outs, Parts}
use Words.{with_coord, acts, parent_of, parts_in, restart_outs, Seen, is_serial}
use Rattle.arj_law_serial.proofs.Terms.{Action, Keeps, given, posted, said, Up, Walks, walks_both, walks_to, KeepsOf, begins_in}

-- ---- at its end

pub walk_end : (P : Seen → Type 0) (e k : ℕ) (end : Disk → Seen → Type 0) (outs : List Effect) (d : Disk) (M : Seen) →
    Walks P e k outs end d M → (c : Disk) × (N : Seen) × end c N
walk_end P e k end [] d M walk = (d, M, walk)
walk_end P e k end (Do w ∷ es) d M walk = walk_end P e k end es (worked w d) M walk.1
walk_end P e k end (Say b ∷ es) d M walk = walk_end P e k end es d (said e (b ∷ []) M) walk
walk_end P e k end (Send to m ∷ es) d M walk =
    walk_end P e k end es d (said e [] (posted (record { from = k; to = to; message = m }) M)) (walk [] refl)

-- ---- together

-- what is kept everywhere is kept there
pub of_kept : (hd : Header) (G : List Action → Seen → Type 0) (P : Seen → Type 0) → Keeps hd P → KeepsOf hd G (λ begun M. P M)
of_kept hd G P one = record {
  quiet = λ begun e bs M quiet more good p. one.quiet e bs M quiet p;
  stop = λ begun e k d live M more good p. one.stop e k d live M p;
  message = λ begun e k d t v from m outs M more good p there meant is. one.message e k d t v from m outs M p there meant is;
  act = λ begun e k d t i M is none more good p. one.act e k d t i M is none p;
  begin = λ begun e k d t l how parent M new may none more good p. one.begin e k d t l how parent M new may none p;
  tick = λ begun e k d t M more good p. one.tick e k d t M p;
  restart = λ begun e k d M more good p. one.restart e k d M p;
  first = one.first;
}

-- where more holds, too
pub of_more : (hd : Header) (G H R : List Action → Seen → Type 0) → ((begun : List Action) (M : Seen) → H begun M → G begun M) →
    KeepsOf hd G R → KeepsOf hd H R
of_more hd G H R less one = record {
  quiet = λ begun e bs M quiet more good p. one.quiet begun e bs M quiet (less begun M more) good p;
  stop = λ begun e k d live M more good p. one.stop begun e k d live M (less begun _ more) good p;
  message = λ begun e k d t v from m outs M more good p there meant is.
      one.message begun e k d t v from m outs M (less begun _ more) good p there meant is;
  act = λ begun e k d t i M is none more good p. one.act begun e k d t i M is none (less begun _ more) good p;
  begin = λ begun e k d t l how parent M new may none more good p.
      one.begin begun e k d t l how parent M new may none (less begun _ more) good p;
  tick = λ begun e k d t M more good p. one.tick begun e k d t M (less begun _ more) good p;
  restart = λ begun e k d M more good p. one.restart begun e k d M (less begun _ more) good p;
  first = one.first;
}

-- two relations, each where the other holds
module _ (hd : Header) (G R Q : List Action → Seen →
    Type 0) (one : KeepsOf hd (λ begun M. G begun M × Q begun M) R) (two : KeepsOf hd (λ begun M. G begun M × R begun M) Q) where
  abbrev Both : List Action → Seen → Type 0
  Both begun M = R begun M × Q begun M

  both_walk : (begun : List Action) (e k : ℕ) (outs : List Effect) (v : Parts) (d : Disk) (M : Seen) → Walks (R begun) e k outs
      (Up (R begun) k v) d M → Walks (Q begun) e k outs (Up (Q begun) k v) d M → Walks (Both begun) e k outs (Up (Both begun) k v) d M
  both_walk begun e k outs v d M a b = walks_both (R begun) (Q begun) e k outs (Up (R begun) k v) (Up (Q begun) k v) d M a b

  pub of_both : KeepsOf hd G Both
  of_both = record {
    quiet = λ begun e bs M quiet more good p.
        (one.quiet begun e bs M quiet (more, p.1) good p.0, two.quiet begun e bs M quiet (more, p.0) good p.1);
    stop = λ begun e k d live M more good p.
        (one.stop begun e k d live M (more, p.1) good p.0, two.stop begun e k d live M (more, p.0) good p.1);
    message = λ begun e k d t v from m outs M more good p there meant is. both_walk begun e k outs v d M (one.message begun e k d t v from m
        outs M (more, p.1) good p.0 there meant is) (two.message begun e k d t v from m outs M (more, p.0) good p.1 there meant is);
    act = λ begun e k d t i M is none more good p. let did = acts i d.intents t.coord in both_walk begun e k did.outs (with_coord t
        did.part) d M (one.act begun e k d t i M is none (more, p.1) good p.0) (two.act begun e k d t i M is none (more, p.0) good p.1);
    begin = λ begun e k d t l how parent M new may none more good p.
        let did = begin_action l how parent (parent_of parent t.coord) t.coord in
        both_walk (begins_in how parent t ∷ begun) e k did.outs (with_coord t did.part) d (given l
        (record { node = k; serial = is_serial how }) M) (one.begin begun e k d t l how parent M new may none (more, p.1) good p.0)
        (two.begin begun e k d t l how parent M new may none (more, p.0) good p.1);
    tick = λ begun e k d t M more good p. both_walk begun e k (tick_outs (record { number = k; disk = d; live = Some t }) t)
        (with_coord t (again_all t.coord.doings t.coord).part) d M (one.tick begun e k d t M (more, p.1) good p.0)
        (two.tick begun e k d t M (more, p.0) good p.1);
    restart = λ begun e k d M more good p. both_walk begun e k (restart_outs hd k (d.inc + 1) d) (parts_in k (d.inc + 1) d) d M
        (one.restart begun e k d M (more, p.1) good p.0) (two.restart begun e k d M (more, p.0) good p.1);
    first = λ st formed. (one.first st formed, two.first st formed);
  }

-- the same relation in other words
module _ (hd : Header) (G R Q : List Action → Seen → Type 0) (to : (begun : List Action) (M : Seen) → R begun M →
    Q begun M) (from : (begun : List Action) (M : Seen) → Q begun M → R begun M) (one : KeepsOf hd G R) where
  to_walk : (begun : List Action) (e k : ℕ) (outs : List Effect) (v : Parts) (d : Disk) (M : Seen) →
      Walks (R begun) e k outs (Up (R begun) k v) d M → Walks (Q begun) e k outs (Up (Q begun) k v) d M
  to_walk begun e k outs v d M walk =
      walks_to (R begun) (Q begun) e k outs (Up (R begun) k v) (Up (Q begun) k v) d M (λ N r. to begun N r) (λ c N r. to begun _ r) walk

  pub of_as : KeepsOf hd G Q
  of_as = record {
    quiet = λ begun e bs M quiet more good p. to begun _ (one.quiet begun e bs M quiet more good (from begun _ p));
    stop = λ begun e k d live M more good p. to begun _ (one.stop begun e k d live M more good (from begun _ p));
    message = λ begun e k d t v from_node m outs M more good p there meant is.
        to_walk begun e k outs v d M (one.message begun e k d t v from_node m outs M more good (from begun _ p) there meant is);
    act = λ begun e k d t i M is none more good p. let did = acts i d.intents t.coord in
        to_walk begun e k did.outs (with_coord t did.part) d M (one.act begun e k d t i M is none more good (from begun _ p));
    begin =
        λ begun e k d t l how parent M new may none more good p. let did = begin_action l how parent (parent_of parent t.coord) t.coord in
        to_walk (begins_in how parent t ∷ begun) e k did.outs (with_coord t did.part) d
        (given l (record { node = k; serial = is_serial how }) M)
        (one.begin begun e k d t l how parent M new may none more good (from begun _ p));
    tick = λ begun e k d t M more good p. to_walk begun e k (tick_outs (record { number = k; disk = d; live = Some t }) t)
        (with_coord t (again_all t.coord.doings t.coord).part) d M (one.tick begun e k d t M more good (from begun _ p));
    restart = λ begun e k d M more good p. to_walk begun e k (restart_outs hd k (d.inc + 1) d) (parts_in k (d.inc + 1) d) d M
        (one.restart begun e k d M more good (from begun _ p));
    first = λ st formed. to [] _ (one.first st formed);
  }
