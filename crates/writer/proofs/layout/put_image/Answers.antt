use Rattle.writer.proofs.ImageLaws.{image-put}
use Rattle.writer.proofs.layout.put_image.Goals as goal

pub returns : goal.returns
returns c =
    let put =
    image-put c.args.m c.args.instructions.now c.args.regions.now c.args.«data».now c.requires.0 c.args.out.now _ _ _ _ _ _ _ _ c.instruction_count-n.ensures c.region_count-r.ensures c.regions_at-regions_at.ensures c.data_at-data_at.ensures c.put_header.ensures c.put_words.ensures c.put_words-2.ensures c.put_bytes.ensures in
    record { value = put.0; out_after = put.1 }
