use Rattle.arj_part_tests.proofs.uses.prepare_clear.Goals as goal

pub prepare-requires-clause-few : goal.prepare-requires-clause-few
prepare-requires-clause-few g c =
    c.known_objects.ensures.few (g.S.ObjectStore.pair (g.D.Disk.file c.args.disk.now) (g.S.ObjectStore.own_role c.args.store.now)) c.args.states.now c.args.known.now c.requires.few c.requires.known c.requires.added
