-- What is known of nodes without the machine doesn't depend on the walk that is followed.
use Rattle.arj_law_parts.proofs.Words
use Words.{ℕ, List, Option, Kind, Path, Uid, Coord, Disk, Intent, Parts, Seen}
use Words.kind
use Words.commit
use Rattle.arj_law_disk_view.proofs.Terms.{KnowsNode, IsOfKind, KnowsCoord, KnowsKinds, KnowsMachine, Kinds, Walk}

module _ (tops : Kinds) (o : Option Walk) where
  abbrev On : Kinds
  On = record tops { walk = o }

  pub kinds_on : KnowsKinds tops → KnowsKinds On
  kinds_on n = record {
    named = n.named;
    apart = n.apart;
    serial = n.serial;
    own = n.own;
    rooted = n.rooted;
    alone = n.alone;
    plain = n.plain;
    idem = n.idem;
  }

  pub kind_on : (u : Uid) (k : Kind) (p : Path) → IsOfKind tops u k p → IsOfKind On u k p
  kind_on u kind.Nested p h = h
  kind_on u kind.Serial p h = h
  kind_on u kind.Constituent p h = h
  kind_on u kind.Top p h = h
  kind_on u kind.Independent p h = h

  machine_on : (c : Coord) (u : Uid) (m : commit.Machine) → KnowsMachine tops c u m → KnowsMachine On c u m
  machine_on c u m n = record {
    branch = n.branch;
    found = n.found;
    unended = n.unended;
    path = n.path;
    objects = n.objects;
    top = n.top;
    changes = n.changes;
    plan = n.plan;
    way = n.way;
    used = n.used;
    more = n.more;
    uses = n.uses;
  }

  pub coord_on : (intents : List (Uid × Intent)) (c : Coord) → KnowsCoord tops intents c → KnowsCoord On intents c
  coord_on intents c n = record {
    path = n.path;
    kind = λ u b is. kind_on u b.kind b.path (n.kind u b is);
    root = n.root;
    headed = n.headed;
    stem = n.stem;
    at_work = n.at_work;
    unrecorded = n.unrecorded;
    awaited = n.awaited;
    rooted = n.rooted;
    machines = λ u q m at now. machine_on c u m (n.machines u q m at now);
    starts = n.starts;
    above = n.above;
    steps = n.steps;
    alone = n.alone;
    as_long = n.as_long;
    telling_there = n.telling_there;
    said = n.said;
    includes = n.includes;
  }

  pub node_on : (k : ℕ) (d : Disk) (t : Parts) (M : Seen) → KnowsNode tops k d t M → KnowsNode On k d t M
  node_on k d t M n = record {
    kinds = kinds_on n.kinds;
    coord = coord_on d.intents t.coord n.coord;
    begun = n.begun;
    asked = n.asked;
    elsewhere = n.elsewhere;
    naming_here = n.naming_here;
    since = n.since;
  }
