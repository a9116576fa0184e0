use Rattle.std.proofs.Common.{length-take}
use Rattle.image.proofs.AcceptedImage.{header-memory}

-- M of an image is never more than the most, so that the first M of so many bytes are M bytes
pub ruleset memory = (header-memory, length-take)
