-- The elements of tuples are compared.
use Rattle.node_questions.proofs.Shaped.{same_tuple}
use Rattle.node_questions.proofs.shapes.is_same_shape.Goals as goal

pub returns-in-Tuple-Tuple : goal.returns-in-Tuple-Tuple
returns-in-Tuple-Tuple c =
    same_tuple c.args.one.now c.args.other.now _ _ _ _ _ c.in-Tuple-Tuple.is-0 c.in-Tuple-Tuple.is-1 c.as_slice.ensures
    c.as_slice-in-Tuple-Tuple.ensures c.is_same_tuple.ensures
