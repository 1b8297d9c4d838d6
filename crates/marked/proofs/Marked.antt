-- The marked cases (a) to (l) of document 01: what the definitions give is what document 01 says, by computation.
use mathlib.Core.Path.{◌≡◌, refl}
use Prim.Native.Nat.{◌+◌, ◌*◌}
use mathlib.Core.Bool.{true}
use Rattle.base.specs.Tab.{tab, tab_from, least}
use Rattle.answer.specs.Numbers.{number_of}
use Rattle.quad.specs.Block.{path_of, column, row}
use Rattle.quad.specs.Direction.{east_step, south_step}
use Rattle.quad.specs.Tree.{same_leaf, size_of, sides_of, types_of, join, tree_of}
use Rattle.table.specs.Rules.{depth_to, all_of, type_ok, father_ok, once_ok, son_ok, word_ok, sons_ok, depth_ok, son_alike, mixed_ok, fault_at, fault_from, faults_of, length_ok, sizes_of, each_node_of, check_of, asked_of}
use Rattle.table.specs.Nodes.{first_quadrant, son_type, path_to, holder, pixel, tree_at}
use Rattle.table.specs.Preorder.{preorder}
use Rattle.table.specs.SheetA.{raster_a, table_a, file_a}
use Rattle.raster.specs.Raster.{raster_tree, pixels_from, build_of, built_table, raster_of, decode_of, decoded_raster}
use Rattle.neighbour.specs.Neighbour.{beside, neighbour_found, neighbour_of, corner_leaf_of}
use Rattle.file.specs.File.{records, file_of, block_at, open_of, read_of, read_table, write_of, written_file}
use Rattle.distance.specs.Distance.{to_outside, nearest, distance_at, distance_of}
use Rattle.walk.specs.Walk.{bad_place, inside_of, outside_of, step_of}
use Rattle.walk_rows.specs.Whole.{trace}
use Rattle.walk_rows.specs.Rows.{tally}
use Rattle.marked.specs.Cases.{cases, all_hold}

pub marked : all_hold cases ≡ true
unfolding cases all_hold trace tally bad_place inside_of outside_of step_of to_outside nearest distance_at least open_of read_of beside neighbour_found neighbour_of corner_leaf_of raster_tree preorder first_quadrant son_type path_to holder pixel tree_at depth_to all_of type_ok father_ok once_ok son_ok word_ok sons_ok depth_ok son_alike mixed_ok fault_at fault_from faults_of length_ok sizes_of each_node_of check_of asked_of same_leaf size_of sides_of join tree_of east_step south_step path_of column row build_of pixels_from
marked = refl

-- sheet A is one picture as raster, table and file, in every direction; and the numbers given back with them
pub record SheetA : Type 0 where
  pub built : built_table 2 raster_a (tab (λ i. 7) 54) ≡ table_a
  pub decoded : decoded_raster 2 table_a (tab (λ i. 7) 16) ≡ raster_a
  pub written : written_file 2 table_a (tab (λ i. 7) 32) ≡ file_a
  pub read : read_table file_a (tab (λ i. 7) 54) ≡ table_a
  pub building : number_of (build_of 2 raster_a 54) ≡ 256 * 9
  pub decoding : number_of (decode_of 2 table_a 16) ≡ 0
  pub writing : number_of (write_of 2 table_a 32) ≡ 256 * 32
  pub reading : number_of (read_of file_a 54) ≡ 256 * (8 * 9 + 2)
  pub distances : number_of (distance_of 2 table_a 9) ≡ 0

pub sheet-A : SheetA
unfolding distance_of built_table build_of pixels_from decoded_raster decode_of raster_of written_file write_of file_of records read_table read_of open_of block_at tab_from raster_tree preorder tree_of join same_leaf size_of types_of holder pixel tree_at path_of depth_to all_of type_ok father_ok once_ok son_ok word_ok sons_ok depth_ok son_alike mixed_ok fault_at fault_from faults_of length_ok sizes_of each_node_of check_of
sheet-A = record {
  built = refl;
  decoded = refl;
  written = refl;
  read = refl;
  building = refl;
  decoding = refl;
  writing = refl;
  reading = refl;
  distances = refl;
}
