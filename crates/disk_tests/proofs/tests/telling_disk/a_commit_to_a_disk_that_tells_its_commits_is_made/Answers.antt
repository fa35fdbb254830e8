use Rattle.disk_tests.proofs.tests.telling_disk.a_commit_to_a_disk_that_tells_its_commits_is_made.Goals as goal

pub invariant_of-disk : goal.invariant_of-disk
invariant_of-disk g c =
    let d = c.commit_one-disk.result.disk in
    record {
      size = d.size;
      start_whole = d.start_whole;
      whole = d.whole;
      fits = d.fits;
      settled_fits = d.settled_fits;
      reads = d.reads;
      apart = d.apart;
      unlost = d.unlost;
    }
