use Rattle.sound_transforms.proofs.Carried.{transform_sound}
use Rattle.sound_transforms.proofs.what_a_stylesheet_gives_is_sound.Goals as goal

pub returns : goal.returns
returns c = transform_sound
