use Rattle.capi.proofs.CallLaws.{begun-words, refused-words}
use Rattle.capi.proofs.uviktalik_begin_2.Goals as goal

pub returns-in-Ok : goal.returns-in-Ok
returns-in-Ok c = begun-words _ _ _ _ _ _ _ _ c.from_words.result c.from_words.ensures _ _ c.in-Ok.ensures c.words_of.ensures

pub returns-in-Err : goal.returns-in-Err
returns-in-Err c =
    rw (c.number.ensures, c.index.ensures) (refused-words _ _ _ _ _ _ _ _ c.from_words.result c.from_words.ensures _ c.in-Err.ensures)
