use Rattle.std.proofs.Common.{Err, ◌∙◌, sym, ap}
use Rattle.ckpt_chain.specs.Reads.{reads_on}
use Rattle.restore_group.proofs.HeldLaws.{meta_refused, layers_refused, refused_cause, held, sound, below, blocks_are}
use Rattle.restore_group.proofs.restoring.restore.Goals as goal

pub returns-in-Err-meta_of-clause-outcome : goal.returns-in-Err-meta_of-clause-outcome
returns-in-Err-meta_of-clause-outcome g c = λ image told.
    let size = blocks_are image _ (g.met.D.Disk.image_size _ _ image (g.met.D.Disk.reading_left _ image told)) ∙ sym c.in-Ok.ensures.disk.blocks in
    let opened = sym (c.in-Ok.ensures.newest image told) ∙ c.in-Some.is in
    let told' = c.in-Ok.ensures.disk.reading ∙ told in
    rw c.refusal.ensures (meta_refused image _ size c.in-Some.slot c.in-Some.body opened c.in-Err-meta_of.refused (λ e. c.in-Err-meta_of.ensures.only image told' (ap (λ r. Err r) e)))

pub returns-in-Err-meta_of-clause-cause : goal.returns-in-Err-meta_of-clause-cause
returns-in-Err-meta_of-clause-cause g c =
    rw c.refusal.ensures (refused_cause c.in-Err-meta_of.refused _ _ _ _ c.in-Ok.ensures.disk.faults c.in-Err-meta_of.ensures.cause)

pub read_layers-requires-clause-placed : goal.read_layers-requires-clause-placed
read_layers-requires-clause-placed g c =
    rw (c.as_slice-2.ensures, c.meta_of.ensures.disk.blocks) (below _ _ _ c.in-Ok-meta_of.ensures.orderly.placed)

pub returns-in-Err-read_layers-clause-outcome : goal.returns-in-Err-read_layers-clause-outcome
returns-in-Err-read_layers-clause-outcome g c = λ image told.
    let size = blocks_are image _ (g.met.D.Disk.image_size _ _ image (g.met.D.Disk.reading_left _ image told)) ∙ sym c.in-Ok.ensures.disk.blocks in
    let opened = sym (c.in-Ok.ensures.newest image told) ∙ c.in-Some.is in
    let told' = c.in-Ok.ensures.disk.reading ∙ told in
    let told'' = c.in-Ok-meta_of.ensures.disk.reading ∙ told' in
    let only = rw c.as_slice-2.ensures at (c.in-Err-read_layers.ensures.only image told'') in
    rw c.refusal-in-Err-read_layers.ensures (layers_refused image _ size c.in-Some.slot c.in-Some.body opened c.one_spelled.ensures c.in-Err-read_layers.refused _ _ _ (c.in-Ok-meta_of.ensures.found image told') (λ e. only (ap (λ r. Err r) e)))

pub returns-in-Err-read_layers-clause-cause : goal.returns-in-Err-read_layers-clause-cause
returns-in-Err-read_layers-clause-cause g c =
    let reads = reads_on _ _ _ c.in-Ok.ensures.disk c.in-Ok-meta_of.ensures.disk in
    rw c.refusal-in-Err-read_layers.ensures (refused_cause c.in-Err-read_layers.refused _ _ _ _ reads.faults c.in-Err-read_layers.ensures.cause)

pub returns-clause-outcome : goal.returns-clause-outcome
returns-clause-outcome g c = λ image told.
    let size = blocks_are image _ (g.met.D.Disk.image_size _ _ image (g.met.D.Disk.reading_left _ image told)) ∙ sym c.in-Ok.ensures.disk.blocks in
    let opened = sym (c.in-Ok.ensures.newest image told) ∙ c.in-Some.is in
    let told' = c.in-Ok.ensures.disk.reading ∙ told in
    let told'' = c.in-Ok-meta_of.ensures.disk.reading ∙ told' in
    let are = rw (c.as_slice.ensures, c.as_slice-2.ensures) at c.in-Ok-read_layers.ensures.layers in
    let there = rw (c.as_slice.ensures, c.as_slice-2.ensures) at (c.in-Ok-read_layers.ensures.found image told'') in
    record {
      held = held image _ size c.in-Some.slot c.in-Some.body opened _ _ _ _ (c.in-Ok-meta_of.ensures.found image told') are there;
      gates = c.in-Ok.ensures.gates image told;
    }

pub returns-clause-sound : goal.returns-clause-sound
returns-clause-sound g c =
    let epoch = rw c.in-Some.is at c.in-Ok.ensures.epoch in
    let are = rw (c.as_slice.ensures, c.as_slice-2.ensures) at c.in-Ok-read_layers.ensures.layers in
    rw (sym c.in-Ok.ensures.disk.blocks) (sound _ _ epoch c.in-Ok-meta_of.ensures.whole c.in-Ok-meta_of.ensures.orderly are c.in-Ok-meta_of.ensures.metas)
