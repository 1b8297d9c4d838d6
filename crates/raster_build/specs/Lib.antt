pub mod NotedBlocks
